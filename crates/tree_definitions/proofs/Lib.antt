-- what crates above name through this one
pub use Rattle.strategies.proofs.cert_step
pub use Rattle.strategies.proofs as strategies
pub mod Lookups
pub mod Roots
pub mod Weights
pub mod Mentions
