pub mod Shown
pub mod Given
pub mod Rule13Laws
pub mod InBuffer
