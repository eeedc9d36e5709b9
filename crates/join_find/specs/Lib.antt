-- what crates above name through this one
pub use Rattle.closed_pairs.specs.crit_pairs
pub mod First
pub mod Common
pub mod CommonIds
pub mod NewmanRow
pub mod StrongRow
pub mod Answers
pub mod Sides
pub mod Laws
pub mod Near
pub mod ParallelRow
pub mod Alike
pub mod LastSteps
pub mod KeptLists
pub mod ReachedSides
