pub mod Words
pub mod Rows
pub mod Tops
pub mod Along
