-- The search for a Knuth-Bendix order is lawful.
use Rattle.std.specs.Prelude.{ℕ, List}
use Rattle.trs_defs.specs.System.{RewriteRule}
use Rattle.assign_search.specs.Puzzle.{IsLawful}
use Rattle.order_search.specs.Slots.{puzzle_of}
use Rattle.order_search.specs.OrderSpace.{arity_with_mark}
use Rattle.order_search.proofs.OrderLawful.{order_lawful}
use Rattle.kbo_find.specs.KboSpace.{kbo_family, kbo_tops}
use Rattle.kbo_find.specs.KboRow.{kbo_search}
use Rattle.kbo_find.specs.KboDepends.{kbo_depends}

pub kbo_lawful : (arities symbols : List ℕ) (rules pairs : List RewriteRule) → IsLawful (puzzle_of (kbo_search arities symbols rules pairs))
kbo_lawful arities symbols rules pairs =
    order_lawful (kbo_family (arity_with_mark arities)) (kbo_depends (arity_with_mark arities)) symbols (kbo_tops (arity_with_mark arities) symbols) rules pairs
