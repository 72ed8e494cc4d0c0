pub mod Laying
pub mod Fitting
pub mod Writing
pub mod Pairs
