pub mod Reading
pub mod Cutting
pub mod Spelling
pub mod Words
pub mod Back
