pub mod TypeJson
pub mod RowJson
pub mod PageJson
pub mod RefusalJson
pub mod Tokens
pub mod Lines
