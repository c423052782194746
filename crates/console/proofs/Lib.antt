pub mod Telling
pub mod Lines
