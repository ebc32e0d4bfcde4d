pub mod Skip
pub mod Over
pub mod State
