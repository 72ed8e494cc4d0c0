pub mod Constants
pub mod Fitting
pub mod Picks
