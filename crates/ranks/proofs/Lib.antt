pub mod Rule12Laws
pub mod Tests
