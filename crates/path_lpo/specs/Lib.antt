-- what crates above name through this one
pub use Rattle.pair_order.specs as pair_order
pub mod Plain
pub mod Lent
pub mod Table
pub mod Faults
pub mod Comparison
pub mod Root
pub mod Walked
pub mod Kept
pub mod WellMade
pub mod Graph
pub mod Parts
pub mod Memo
pub mod SharedPair
