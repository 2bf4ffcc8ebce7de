pub mod Rules1and2
pub mod Reading
