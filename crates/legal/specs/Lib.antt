pub mod Forms
pub mod Sheet
pub mod SheetLaws
