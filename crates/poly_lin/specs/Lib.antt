-- what crates above name through this one
pub use Rattle.pair_order.specs as pair_order
pub mod Plain
pub mod Table
pub mod Rows
pub mod Faults
pub mod Covering
pub mod TooBig
pub mod Subterms
pub mod Profiles
pub mod Laws
pub mod WellMade
