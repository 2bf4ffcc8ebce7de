pub mod Layouts
pub mod Layout
pub mod Facts
pub mod LayoutLaws
