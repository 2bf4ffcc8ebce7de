pub mod Rule12
pub mod Order
pub mod Breach
pub mod Spare
pub mod OrderLaws
pub mod Marks
pub mod Ordering
