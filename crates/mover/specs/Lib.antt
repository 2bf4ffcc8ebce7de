pub mod Moving
pub mod Laid
pub mod MovingLaws
pub mod Before
pub mod MovedBack
