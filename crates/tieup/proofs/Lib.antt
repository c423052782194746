pub mod Counting
pub mod Ties
pub mod Drafts
