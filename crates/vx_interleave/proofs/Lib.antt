pub mod Columns
pub mod Checked
