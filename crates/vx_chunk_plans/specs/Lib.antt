pub mod Laid
pub mod Filters
pub mod Deals
pub mod Takes
pub mod Runs
