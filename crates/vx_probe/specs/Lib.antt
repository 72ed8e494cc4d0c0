pub mod Causes
pub mod Encodings
pub mod Probes
pub mod States
pub mod Lends
pub mod Slots
pub mod Names
