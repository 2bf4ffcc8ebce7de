pub mod Demand1
pub mod Demand2
pub mod Demand3
pub mod Cases
pub mod TurnedAway
pub mod AnyOrder
pub mod AnyProtocol
pub mod CallsTold
