pub mod GrownLemmas
pub mod QuietLemmas
pub mod RankedLemmas
pub mod AlongLemmas
