pub mod Kinds
pub mod Longest
pub mod Names
