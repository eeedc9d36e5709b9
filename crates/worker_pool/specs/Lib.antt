-- what crates above name through this one
pub use Rattle.tree_core.specs.cert_step
pub use Rattle.tree_core.specs as tree_core
pub use Rattle.tree_core.specs.tree_definitions
pub mod Serial
pub mod Turns
pub mod Said
pub mod Shared
pub mod Watched
