pub mod IntegerTypes
pub mod Members
pub mod SingleReads
pub mod Sortedness
