pub mod Integers
pub mod Words
pub mod Numbers
pub mod Keys
pub mod Sets
pub mod Members
pub mod Haystacks
pub mod Causes
