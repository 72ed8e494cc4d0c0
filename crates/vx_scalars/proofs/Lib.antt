pub mod Total
pub mod Exact
pub mod Types
pub mod Lists
pub mod Fitting
