-- The search for a linear interpretation is lawful.
use Rattle.std.specs.Prelude.{ℕ, List, []}
use Rattle.trs_defs.specs.System.{RewriteRule}
use Rattle.assign_search.specs.Puzzle.{IsLawful}
use Rattle.order_search.specs.Slots.{puzzle_of}
use Rattle.order_search.specs.OrderSpace.{arity_with_mark}
use Rattle.order_search.proofs.OrderLawful.{order_lawful}
use Rattle.poly_find.specs.PolySpace.{poly_family}
use Rattle.poly_find.specs.PolyRow.{poly_search}
use Rattle.poly_find.specs.PolyDepends.{poly_depends}

pub poly_lawful : (arities symbols : List ℕ) (rules pairs : List RewriteRule) → IsLawful (puzzle_of (poly_search arities symbols rules pairs))
poly_lawful arities symbols rules pairs = order_lawful (poly_family (arity_with_mark arities)) (poly_depends (arity_with_mark arities)) symbols [] rules pairs
