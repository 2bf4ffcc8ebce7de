pub mod PieceLemmas
pub mod CuttingLemmas
pub mod Found
