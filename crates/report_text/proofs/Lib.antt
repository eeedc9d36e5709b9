-- what crates above name through this one
pub use Rattle.tree_definitions.proofs as tree_definitions
pub mod GoalTexts
