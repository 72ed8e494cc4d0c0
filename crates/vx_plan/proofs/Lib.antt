pub mod Opened
pub mod Refused
pub mod Runs
pub mod Selecting
pub mod Changing
pub mod Headline
