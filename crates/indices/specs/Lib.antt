pub mod Indices
pub mod IndexLaws
