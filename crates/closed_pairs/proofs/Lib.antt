-- what crates above name through this one
pub use Rattle.crit_pairs.proofs as crit_pairs
pub mod PairsOfLists
pub mod CountedPeaks
pub mod PooledItems
pub mod PooledJoins
pub mod PooledClosings
pub mod SingleStep
pub mod Leftward
pub mod ParallelItems
pub mod Passing
pub mod Conclusions
pub mod OneAnswers
