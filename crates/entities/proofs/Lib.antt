pub mod RepresentsLemmas
pub mod Looked
