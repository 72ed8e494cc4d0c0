pub mod Causes
pub mod Moved
