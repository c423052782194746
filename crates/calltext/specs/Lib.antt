pub mod Lines
pub mod Results
pub mod Round
