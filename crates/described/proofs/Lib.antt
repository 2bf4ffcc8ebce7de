pub mod Refused
pub mod Trips
pub mod AsReader
pub mod OurBox
