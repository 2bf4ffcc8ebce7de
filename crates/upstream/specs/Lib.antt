pub mod Ways
pub mod Telling
pub mod TellingLaws
pub mod Listing
pub mod ListingLaws
