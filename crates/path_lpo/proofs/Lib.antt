-- what crates above name through this one
pub use Rattle.pair_order.proofs as pair_order
pub mod Walks
pub mod Keeping
pub mod Parting
pub mod Listing
pub mod Readings
pub mod Remembering
pub mod Spans
pub mod Equality
pub mod Filtering
pub mod SharedPairs
