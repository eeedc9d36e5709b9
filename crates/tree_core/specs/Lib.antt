-- what crates above name through this one
pub use Rattle.tree_state.specs.cert_step
pub use Rattle.tree_state.specs.strategies
pub use Rattle.tree_state.specs.tree_definitions
pub mod Bound
pub mod Invariant
pub mod Laws
pub mod Reported
