pub mod Putting
pub mod Telling
