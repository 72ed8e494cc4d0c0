pub mod Forms
pub mod Types
pub mod Texts
pub mod Rows
pub mod Packed
pub mod Flat
pub mod Scalars
