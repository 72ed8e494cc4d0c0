pub mod Bits
pub mod Masks
pub mod Validities
pub mod Views
