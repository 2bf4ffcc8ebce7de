pub mod Clusters
pub mod Reading
pub mod BufferLaws
