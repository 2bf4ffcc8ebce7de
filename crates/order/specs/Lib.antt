pub mod Permuted
pub mod Same
pub mod Blind
pub mod Before
