pub mod VerdictLemmas
pub mod ExactLemmas
