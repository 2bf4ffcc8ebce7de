pub mod Routes
pub mod WaysLaws
pub mod RoutesLaws
pub mod Listing
pub mod ListingLaws
pub mod WhichWay
