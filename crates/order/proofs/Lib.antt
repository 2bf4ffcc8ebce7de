pub mod Permutations
pub mod Rows
pub mod Rules
pub mod Middle
pub mod Steps
pub mod Before
