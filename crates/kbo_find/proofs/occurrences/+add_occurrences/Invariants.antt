use Rattle.std.proofs.Common.{◌≡◌, ◌++◌, drop}
use Rattle.trs_core.specs.View.{tree, forest}
use Rattle.trs_core.specs.Occurrences.{occurring_in, occurring_in_all}
use Rattle.order_search.specs.dp_core.Symbols.{symbols_of, symbols_of_all}
use Rattle.kbo_find.proofs.occurrences.+add_occurrences.Given as goal

abbrev pub invariant-loop-arg : goal.invariant-loop-arg
invariant-loop-arg l =
    (l.symbols.items ++ symbols_of_all (forest (drop l.arg-index l.arg-items)) ≡ l.fn.symbols.items ++ symbols_of (tree l.t))
    × (l.variables.items ++ occurring_in_all (forest (drop l.arg-index l.arg-items)) ≡ l.fn.variables.items ++ occurring_in (tree l.t))
