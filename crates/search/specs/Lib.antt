pub mod Want
pub mod Found
pub mod Before
