pub mod Rule7
pub mod Reading
pub mod CollectionLaws
pub mod Marks
