pub mod Rule10
pub mod Breach
pub mod OwnIds
pub mod Rule10Laws
