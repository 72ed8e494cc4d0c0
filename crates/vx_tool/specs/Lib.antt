pub mod Status
pub mod Words
pub mod Reply
pub mod Outcome
