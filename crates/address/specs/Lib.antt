pub mod Addressed
pub mod AddressedLaws
pub mod Sought
pub mod Seats
