pub mod Rule11
pub mod Lookup
pub mod Breach
pub mod LookupLaws
pub mod Rule11Laws
pub mod GraphLaws
