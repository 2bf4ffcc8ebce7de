pub mod TwoParts
