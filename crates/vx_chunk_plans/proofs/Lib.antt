pub mod Laying
pub mod Keeping
pub mod Dealing
pub mod Taking
pub mod Cutting
