pub mod Boundaries
pub mod Chunked
pub mod Patched
