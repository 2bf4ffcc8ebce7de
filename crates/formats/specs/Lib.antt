pub mod Formats
pub mod Tests
pub mod Sentences
