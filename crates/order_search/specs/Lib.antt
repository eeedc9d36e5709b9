-- what crates above name through this one
pub use Rattle.dp_core.specs as dp_core
pub mod OrderSpace
pub mod OrderRow
pub mod OrderOver
pub mod OrderProblem
pub mod SymbolSets
pub mod Distinct
pub mod Slots
pub mod Outcome
pub mod Ascending
pub mod Placed
pub mod Ends
