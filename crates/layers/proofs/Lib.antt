pub mod Smaller
pub mod Chosen
