pub mod Payload
pub mod Fields
pub mod Standing
pub mod Form
pub mod Skipped
pub mod Attributes
pub mod Records
pub mod Stands
