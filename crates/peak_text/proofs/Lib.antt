-- what crates above name through this one
pub use Rattle.closed_pairs.proofs.crit_pairs
pub mod TwoPathsLaws
pub mod FourPathsLaws
pub mod ParallelStepLaws
pub mod RuleRanksLaws
