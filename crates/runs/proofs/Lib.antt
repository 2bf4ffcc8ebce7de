pub mod Stored
pub mod Shares
pub mod Addressing
mod Sets
pub mod Taken
pub mod Kept
pub mod Moved
pub mod Alone
pub mod Refusals
pub mod Rows
pub mod Answers
pub mod InTurn
