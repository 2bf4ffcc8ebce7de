pub mod CasesLemmas
pub mod ClosestLemmas
pub mod Exits
