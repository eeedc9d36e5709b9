-- what crates above name through this one
pub use Rattle.rule_label.specs.closed_pairs
pub use Rattle.dp_graph.specs.dp_core
pub use Rattle.dp_graph.specs as dp_graph
pub use Rattle.kbo_order.specs as kbo_order
pub use Rattle.nonjoin.specs as nonjoin
pub use Rattle.path_lpo.specs as path_lpo
pub use Rattle.poly_lin.specs as poly_lin
pub use Rattle.usable_rules.specs as usable_rules
pub mod ProofProblem
pub mod PlainProblem
pub mod Subproblems
pub mod Kind
pub mod Entries
pub mod OnPairs
pub mod OrderKind
pub mod DpKind
pub mod GraphKind
pub mod SubtermKind
pub mod PolyKind
pub mod LpoKind
pub mod KboKind
pub mod UsableKind
pub mod LoopKind
pub mod NewmanKind
pub mod ParallelKind
pub mod StrongKind
pub mod LabelKind
pub mod ForkKind
pub mod ConfluenceKind
pub mod ProofStep
pub mod Applies
pub mod Refused
pub mod Table
pub mod Tables
pub mod Opposites
pub mod Laws
pub mod Nodes
pub mod NodeLaws
