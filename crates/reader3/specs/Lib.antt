pub mod ThirdConfiguration
pub mod ThirdRefusals
pub mod ThirdRecord
pub mod Plainly
pub mod PlainConfiguration
pub mod BothEditions
pub mod Case3
