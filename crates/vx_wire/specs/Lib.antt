pub mod Varints
pub mod Fields
pub mod Faults
pub mod Parts
pub mod TypeNumbers
pub mod Messages
pub mod Laws
