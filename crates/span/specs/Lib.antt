pub mod Held
pub mod Blank
pub mod State
pub mod Keys
