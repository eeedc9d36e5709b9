-- what crates above name through this one
pub use Rattle.tree_definitions.specs.cert_step
pub use Rattle.tree_definitions.specs.strategies
pub use Rattle.tree_definitions.specs as tree_definitions
pub mod Parts
pub mod Seen
pub mod Ascending
pub mod Stuck
