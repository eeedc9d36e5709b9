-- what crates above name through this one
pub use Rattle.crit_pairs.specs as crit_pairs
pub mod Ends
pub mod PeaksFor
pub mod Joined
pub mod LinearRules
pub mod LeftOf
pub mod ParallelClosed
pub mod StronglyClosed
pub mod Laws
