pub mod Plugged
