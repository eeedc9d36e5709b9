use Rattle.std.proofs.Common.{◌≡◌, ◌↔◌, drop, map}
use Rattle.trs_core.specs.View.{tree}
use Rattle.order_search.proofs.marking.are_same.Given as goal

abbrev pub invariant-loop-i : goal.invariant-loop-i
invariant-loop-i l = (map tree (drop l.i l.terms) ≡ map tree (drop l.i l.others)) ↔ (map tree l.terms ≡ map tree l.others)
