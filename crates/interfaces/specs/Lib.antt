pub mod Rule4
pub mod Reading
pub mod InterfaceLaws
pub mod Pairs
pub mod Tops
pub mod Judged
