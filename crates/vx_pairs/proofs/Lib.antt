pub mod Ranges
pub mod RowsFit
pub mod Arrays
pub mod Slices
pub mod Zips
pub mod Parts
pub mod Pushes
