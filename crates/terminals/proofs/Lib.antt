pub mod StandingLemmas
