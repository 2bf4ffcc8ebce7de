pub mod Format
pub mod FormatLaws
pub mod Layouts
pub mod Fields
pub mod FieldsLaws
pub mod Layout
pub mod LayoutLaws
pub mod Withdrawn
