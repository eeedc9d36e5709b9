-- what crates above name through this one
pub use Rattle.tree_core.proofs as tree_core
pub mod Rounds
pub mod Sharing
pub mod SerialEnds
mod Crossing
mod Turning
