pub mod Gains
pub mod Masks
pub mod Casts
pub mod Truths
pub mod LanesCompared
