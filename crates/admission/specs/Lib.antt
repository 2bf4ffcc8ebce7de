pub mod Plugging
pub mod Admission
pub mod Drafts
pub mod PluggingLaws
