pub mod Nodes
pub mod Values
pub mod Answered
pub mod Walks
