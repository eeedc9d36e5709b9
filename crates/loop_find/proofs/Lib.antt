-- what crates above name through this one
pub use Rattle.crit_pairs.proofs as crit_pairs
pub mod FlatTerms
pub mod Renumbering
pub mod QuickUnifiers
pub mod Ways
pub mod TokenWalks
pub mod Narrowings
pub mod WellFormedSides
pub mod LinkLists
pub mod Recurrences
pub mod Tried
pub mod Extensions
pub mod Copies
pub mod LoopsFound
pub mod Walked
pub mod LoopSteps
pub mod RuleClosures
