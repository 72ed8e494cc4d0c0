pub mod Layouts
pub mod Rules
pub mod Slots
