-- The search for a path order is lawful.
use Rattle.std.specs.Prelude.{ℕ, List, []}
use Rattle.trs_defs.specs.System.{RewriteRule}
use Rattle.assign_search.specs.Puzzle.{IsLawful}
use Rattle.order_search.specs.Slots.{puzzle_of}
use Rattle.order_search.specs.OrderSpace.{order_search}
use Rattle.order_search.proofs.OrderLawful.{order_lawful}
use Rattle.lpo_find.specs.LpoSpace.{lpo_family}
use Rattle.lpo_find.specs.LpoDepends.{lpo_depends}

pub lpo_lawful : (arity : ℕ → ℕ) (symbols : List ℕ) (rules pairs : List RewriteRule) → IsLawful (puzzle_of (order_search (lpo_family arity) symbols [] rules pairs))
lpo_lawful arity symbols rules pairs = order_lawful (lpo_family arity) (lpo_depends arity) symbols [] rules pairs
