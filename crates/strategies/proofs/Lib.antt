-- what crates above name through this one
pub use Rattle.cert_step.proofs as cert_step
pub use Rattle.conf_find.proofs as conf_find
pub use Rattle.cert_step.proofs.dp_graph
pub use Rattle.cert_step.proofs.usable_rules
pub mod ProblemKinds
pub mod Distinctness
pub mod SymbolArities
pub mod TableValues
pub mod PlacesMade
pub mod LinearMade
pub mod PathMade
pub mod KnuthMade
pub mod GraphMade
pub mod Applying
pub mod Answering
pub mod TrueRows
pub mod Shrinking
