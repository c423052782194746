pub mod Members
pub mod Numbers
pub mod Drafts
pub mod Gathered
