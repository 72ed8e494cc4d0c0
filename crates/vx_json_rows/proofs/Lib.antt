pub mod Readings
pub mod Numerals
pub mod Fitted
pub mod Alike
