pub mod Rules
pub mod Selections
pub mod Texts
