pub mod Setup
pub mod Asking
