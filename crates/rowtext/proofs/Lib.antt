pub mod Counts
pub mod Rows
pub mod Back
pub mod Putting
pub mod Lists
