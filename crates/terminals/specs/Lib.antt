pub mod Terminals
pub mod Said
pub mod Bearers
pub mod Table
pub mod Standing
