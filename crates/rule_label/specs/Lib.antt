-- what crates above name through this one
pub use Rattle.closed_pairs.specs as closed_pairs
pub use Rattle.closed_pairs.specs.crit_pairs
pub mod Labelled
pub mod FittingRanks
pub mod Laws
