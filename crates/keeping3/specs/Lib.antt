pub mod Keeping
pub mod Behind
pub mod KeepingLaws
