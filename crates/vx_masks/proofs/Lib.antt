pub mod Counts
pub mod Places
pub mod Marks
pub mod Joins
pub mod Uniform
