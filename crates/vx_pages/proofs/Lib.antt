pub mod RowLists
pub mod TypeLists
pub mod Lists
pub mod Joins
pub mod Printed
