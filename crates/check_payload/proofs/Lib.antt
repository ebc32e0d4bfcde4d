pub mod Enough
pub mod Filled
