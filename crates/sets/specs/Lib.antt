pub mod Used
pub mod Uses
