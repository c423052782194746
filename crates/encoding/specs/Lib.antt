pub mod Numbers
pub mod Rows
pub mod Calls
pub mod Answers
pub mod Laws
pub mod Kinds
pub mod Parts
