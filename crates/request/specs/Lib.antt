pub mod Outcome
pub mod Stored
pub mod Load
pub mod Request
