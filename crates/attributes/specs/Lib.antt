pub mod Attributes
pub mod Element
