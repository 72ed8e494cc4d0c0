pub mod formers
pub mod Types
pub mod Order
pub mod Fits
pub mod Sizes
