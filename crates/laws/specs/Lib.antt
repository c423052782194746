-- Drafts with what is told of them, and what is true of all cloth.
pub mod Examples
pub mod Laws
