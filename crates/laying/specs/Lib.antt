pub mod Paste
pub mod Laying
pub mod LayingLaws
