pub mod Sources
pub mod Measures
pub mod Stores
