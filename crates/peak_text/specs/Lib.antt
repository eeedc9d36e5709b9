-- what crates above name through this one
pub use Rattle.closed_pairs.specs as closed_pairs
pub use Rattle.closed_pairs.specs.crit_pairs
pub mod TwoPaths
pub mod FourPaths
pub mod ParallelStep
pub mod RuleRanks
pub mod Ranges
