pub mod Integers
pub mod Means
pub mod Under
