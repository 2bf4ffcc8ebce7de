pub mod Shown
pub mod Sources
pub mod SourcesLaws
