pub mod Pairs
pub mod Chunks
pub mod Causes
pub mod Laws
