pub mod Steps
pub mod Opens
mod Changes
