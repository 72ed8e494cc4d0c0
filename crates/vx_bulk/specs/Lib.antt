pub mod Selections
pub mod Types
