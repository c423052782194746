pub mod Tokens
pub mod Results
