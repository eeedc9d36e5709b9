use Rattle.std.proofs.Common.{◌≡◌, drop}
use Rattle.trs_core.specs.View.{forest}
use Rattle.names_text.specs.Named.{next_number_behind}
use Rattle.names_text.proofs.named.+next_number.Given as goal

abbrev pub invariant-loop-arg : goal.invariant-loop-arg
invariant-loop-arg l =
    next_number_behind l.next (forest (drop l.arg-index l.arg-items)) ≡ next_number_behind l.next-2 (forest l.arg-items)
