pub mod Masks
pub mod Notes
pub mod Counts
pub mod Carried
pub mod Order
