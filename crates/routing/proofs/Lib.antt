pub mod WaysLemmas
pub mod RoutesLemmas
pub mod WhichWay
