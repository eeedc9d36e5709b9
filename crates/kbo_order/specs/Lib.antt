-- what crates above name through this one
pub use Rattle.pair_order.specs as pair_order
pub mod Table
pub mod Faults
pub mod Balances
pub mod Seen
pub mod TooBig
pub mod Laws
pub mod Profiles
pub mod WellMade
