pub mod Moves
pub mod Parts
pub mod Levels
pub mod Records
pub mod Stands
pub mod Example
pub mod Ranges
pub mod Grows
