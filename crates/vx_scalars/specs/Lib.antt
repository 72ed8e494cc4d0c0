pub mod Scalars
pub mod Operators
pub mod Orders
pub mod Elementwise
pub mod Membership
