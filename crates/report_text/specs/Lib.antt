-- what crates above name through this one
pub use Rattle.tree_definitions.specs.conf_find
pub use Rattle.tree_definitions.specs.strategies
pub use Rattle.tree_definitions.specs as tree_definitions
pub mod GoalLines
