pub mod Cells
pub mod Fits
pub mod Rows
pub mod Spans
