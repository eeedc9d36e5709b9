-- what crates above name through this one
pub use Rattle.kbo_order.specs.pair_order
pub mod KnuthTest
pub mod KboSpace
pub mod KboRow
pub mod KboPlaces
pub mod KboDepends
pub mod KboLawful
pub mod Laws
pub mod Occurring
pub mod Counted
pub mod Balanced
