-- What is told of layers.
pub mod Told
