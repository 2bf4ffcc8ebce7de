pub mod Doing
pub mod Reply
