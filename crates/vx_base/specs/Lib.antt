pub mod Checks
pub mod Column
pub mod Flat
pub mod Numbers
pub mod Ranges
pub mod Rules
