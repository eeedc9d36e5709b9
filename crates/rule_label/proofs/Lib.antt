-- what crates above name through this one
pub use Rattle.closed_pairs.proofs as closed_pairs
pub use Rattle.closed_pairs.proofs.crit_pairs
pub mod RanksInTurn
pub mod Decreasing
pub mod OneAnswer
