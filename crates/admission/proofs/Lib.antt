pub mod PluggingLemmas
mod Drafted
mod Admitting
