pub mod Columns
pub mod Chunks
pub mod Excepts
pub mod LanesOver
