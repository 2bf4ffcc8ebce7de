pub mod Controls
pub mod Growth
pub mod Told
pub mod Counts
pub mod Standing
pub mod Order
pub mod Rule15
pub mod Reader
