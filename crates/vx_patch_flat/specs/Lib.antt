pub mod Patching
pub mod Chunks
