pub mod Sound
pub mod Meaning
pub mod Placed
pub mod Fresh
pub mod Rising
