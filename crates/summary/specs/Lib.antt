pub mod Answers
pub mod Counted
pub mod Text
pub mod Memory
