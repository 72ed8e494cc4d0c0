pub mod Answers
pub mod Closures
pub mod Halving
pub mod Laws
pub mod Numbers
pub mod Places
pub mod Texts
