pub mod Powers
pub mod Halvings
pub mod Counts
pub mod Calls
pub mod Borders
pub mod Sorted
