pub mod Sweep
pub mod SweepLaws
