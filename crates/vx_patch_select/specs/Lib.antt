pub mod Selected
pub mod Plans
pub mod Patched
pub mod Maps
pub mod Takes
pub mod Laws
