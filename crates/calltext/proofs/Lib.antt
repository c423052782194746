pub mod Words
pub mod Numbers
pub mod Saying
pub mod Back
