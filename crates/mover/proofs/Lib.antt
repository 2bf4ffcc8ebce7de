pub mod MovingLemmas
pub mod Trips
pub mod AsNow
pub mod MovedBack
