pub mod Surveyed
pub mod Exactly
pub mod Shows
pub mod Tables
pub mod Plainly
pub mod NeverSixteen
