pub mod Drafts
pub mod Best
