pub mod Unknown
pub mod AnyBuffer
