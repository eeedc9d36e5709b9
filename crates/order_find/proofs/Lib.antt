-- what crates above name through this one
pub use Rattle.order_search.proofs as order_search
pub use Rattle.poly_find.proofs as poly_find
pub mod SubtermPuzzle
pub mod SubtermLaw
pub mod Subterms
pub mod Places
pub mod Findings
pub mod Arguments
pub mod Remembering
