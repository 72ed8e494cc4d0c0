pub mod Chunks
pub mod Causes
