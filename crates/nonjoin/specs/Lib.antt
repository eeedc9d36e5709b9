-- what crates above name through this one
pub use Rattle.term_pool.specs as term_pool
pub mod Apart
pub mod Clashing
