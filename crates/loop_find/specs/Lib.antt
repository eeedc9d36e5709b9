-- what crates above name through this one
pub use Rattle.crit_pairs.specs as crit_pairs
pub mod ApartRules
pub mod Closures
pub mod LoopRow
pub mod Laws
pub mod Links
pub mod Tries
pub mod Narrowed
pub mod Instances
pub mod Trials
pub mod Flat
pub mod Bindings
pub mod Written
