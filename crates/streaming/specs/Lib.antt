pub mod Rule14
pub mod Tests
pub mod Laws
pub mod Sentences
pub mod Members
pub mod Breaches
