pub mod Cells
pub mod Fits
pub mod Numbers
pub mod Refs
pub mod Rows
pub mod Spans
pub mod Stores
