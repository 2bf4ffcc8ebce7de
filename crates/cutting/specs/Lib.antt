pub mod Rules1to9
pub mod Survey
pub mod Verdict
pub mod Context
pub mod Exact
