-- what crates above name through this one
pub use Rattle.cert_text.specs.cert_step
pub use Rattle.cert_text.specs as cert_text
pub use Rattle.report_text.specs as report_text
pub use Rattle.cert_text.specs.step_text
pub use Rattle.worker_pool.specs.tree_core
pub use Rattle.report_text.specs.tree_definitions
pub use Rattle.worker_pool.specs as worker_pool
pub mod Concludes
pub mod TextOf
pub mod SerialText
pub mod Laws
pub mod InOrder
pub mod ProofOf
pub mod FoundInOrder
