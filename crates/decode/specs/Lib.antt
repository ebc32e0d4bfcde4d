pub mod State
pub mod Items
pub mod Binary
pub mod Texts
pub mod Reader
