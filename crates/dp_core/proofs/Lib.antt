-- what crates above name through this one
pub use Rattle.pair_order.proofs as pair_order
pub mod PlacedLaws
pub mod PairWalk
pub mod DefinedSymbols
pub mod DefinedBelow
pub mod PairSides
pub mod LeftNumbering
pub mod Collecting
pub mod Subterms
pub mod NumberedPairs
pub mod SubtermLaws
pub mod Projecting
pub mod Missing
pub mod Flags
pub mod Conclusions
pub mod AllNumbers
pub mod Places
pub mod LeastLacking
pub mod SymbolBounds
pub mod Comparisons
pub mod OrderLaws
pub mod Removed
pub mod OrderConclusions
