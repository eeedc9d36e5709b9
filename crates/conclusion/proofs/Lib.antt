-- what crates above name through this one
pub use Rattle.worker_pool.proofs.tree_core
pub use Rattle.report_text.proofs.tree_definitions
pub mod StepNumbers
pub mod FoundSteps
pub mod Texts
pub mod Renaming
pub mod InOrder
pub mod Accepted
pub mod FoundInOrder
