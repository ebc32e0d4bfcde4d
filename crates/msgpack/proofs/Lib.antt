pub mod Complete
pub mod Places
pub mod Sound
pub mod Spelling
pub mod Writings
