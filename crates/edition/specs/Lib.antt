pub mod Edition
pub mod Audio
