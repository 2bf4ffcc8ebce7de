pub mod Cutting
pub mod PieceLaws
pub mod CuttingLaws
pub mod Search
pub mod Placed
