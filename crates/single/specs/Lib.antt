pub mod Tests
pub mod Meaning
pub mod FreshControl
