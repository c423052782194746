-- What must lie over all others together, and which layer is named.
pub mod Needs
pub mod Layers
pub mod Topmost
