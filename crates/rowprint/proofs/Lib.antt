pub mod Shaping
pub mod Printing
