pub mod Ways
pub mod Lines
pub mod Rounds
pub mod Sets
pub mod Choice
pub mod Floating
pub mod Topmost
