-- what crates above name through this one
pub use Rattle.kbo_find.specs as kbo_find
pub use Rattle.lpo_find.specs as lpo_find
pub use Rattle.order_search.specs as order_search
pub use Rattle.poly_find.specs as poly_find
pub mod Subterms
pub mod SubtermSpace
pub mod Remembered
pub mod SubtermRow
pub mod Laws
pub mod SubtermLawful
