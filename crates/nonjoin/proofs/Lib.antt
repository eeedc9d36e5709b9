-- what crates above name through this one
pub use Rattle.term_pool.proofs as term_pool
pub mod ApartLaws
mod ClashLaws
