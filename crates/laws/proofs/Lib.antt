-- Proofs of the theorems, over the theory of rows, cloth and desks.
pub mod Desk
pub mod Layers
pub mod Fewest
pub mod Seen
pub mod Same
pub mod Small
