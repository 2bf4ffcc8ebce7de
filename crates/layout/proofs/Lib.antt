pub mod FieldsLemmas
pub mod LayoutLemmas
pub mod Examples
pub mod WithdrawnLemmas
pub mod KindLemmas
