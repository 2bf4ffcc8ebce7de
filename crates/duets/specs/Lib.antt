pub mod Steps
pub mod Isolation
pub mod DuetRuns
pub mod Crowded
pub mod Stretches
pub mod DuetRows
pub mod StepsTold
pub mod DuetAnyProtocol
