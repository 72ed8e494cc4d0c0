pub mod Opened
pub mod AnswersView
