-- what crates above name through this one
pub use Rattle.pair_order.specs as pair_order
pub mod PlacedPairs
pub mod Laws
pub mod PairCodes
pub mod Numbered
pub mod SubtermConditions
pub mod Symbols
pub mod PairConditions
pub mod LeastMissing
pub mod LeastLacking
pub mod Markable
pub mod LeftNumbers
pub mod Places
pub mod Containment
pub mod Flags
pub mod Projection
