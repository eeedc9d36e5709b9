-- what crates above name through this one
pub use Rattle.pair_order.proofs as pair_order
pub mod Knuth
pub mod Sums
pub mod Differences
pub mod Sight
pub mod Walking
pub mod Towers
pub mod Viewers
pub mod Admitting
pub mod Profiling
