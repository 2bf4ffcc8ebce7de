pub mod Rules5and6
pub mod Reading
pub mod Opening
pub mod FrameLaws
pub mod TotalLaws
pub mod Judged
pub mod Third
