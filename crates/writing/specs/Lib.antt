pub mod Writing
pub mod LaidLaws
pub mod AnswerLaws
