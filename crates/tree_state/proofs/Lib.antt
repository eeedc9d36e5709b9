-- what crates above name through this one
pub use Rattle.tree_definitions.proofs.cert_step
pub use Rattle.tree_definitions.proofs.strategies
pub use Rattle.tree_definitions.proofs as tree_definitions
pub mod SeenNodes
pub mod Finding
pub mod Appending
pub mod Changes
pub mod Idle
pub mod Turns
pub mod FirstRoots
pub mod Steps
pub mod Failures
