pub mod Lists
pub mod Bits
