pub mod Configuration
pub mod Refusals
pub mod Plainly
