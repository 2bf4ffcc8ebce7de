pub mod Rule13
pub mod Breach
pub mod BreachLaws
pub mod AlongOrder
pub mod Topology
pub mod Collection
