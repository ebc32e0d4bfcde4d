pub mod Lists
pub mod Memories
