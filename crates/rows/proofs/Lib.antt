pub mod Along
pub mod Parts
pub mod Words
pub mod Told
pub mod Rounds
pub mod Facing
