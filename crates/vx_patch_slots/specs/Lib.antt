pub mod Slots
pub mod Metadata
