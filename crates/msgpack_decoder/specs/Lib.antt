pub mod Chunk
pub mod Payload
pub mod Lending
pub mod Whole
