pub mod Formats
pub mod Items
pub mod Laws
