pub mod Places
pub mod Views
pub mod Making
pub mod Search
pub mod Slices
pub mod Pairs
pub mod OverlayViews
pub mod Laws
