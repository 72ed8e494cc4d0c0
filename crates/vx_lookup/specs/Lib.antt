pub mod Bits
pub mod Causes
