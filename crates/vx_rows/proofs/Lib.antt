pub mod Orders
pub mod Fitting
pub mod Memory
