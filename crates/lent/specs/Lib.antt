pub mod Bits
pub mod Good
pub mod Shows
