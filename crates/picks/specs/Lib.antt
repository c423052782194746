pub mod Lifted
pub mod Told
