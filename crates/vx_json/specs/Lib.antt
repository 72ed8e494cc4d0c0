pub mod Parts
pub mod Steps
pub mod Job
pub mod Bytes
