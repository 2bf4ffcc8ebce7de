pub mod Judgement
pub mod Verdict
