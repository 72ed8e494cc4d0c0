pub mod Spots
pub mod Causes
pub mod Chosen
pub mod Ranges
