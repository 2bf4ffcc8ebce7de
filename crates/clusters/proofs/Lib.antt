pub mod TopologyLemmas
pub mod CollectionLemmas
