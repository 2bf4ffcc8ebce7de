pub mod Controls
pub mod First
pub mod Keys
pub mod Same
pub mod Placed
