use Rattle.std.proofs.Common.{◌≡◌, ◌++◌, map, take}
use Rattle.poly_find.specs.SmallTerms.{has_small_sides}
use Rattle.poly_find.proofs.sizes.add_flags.Given as goal

abbrev pub invariant-loop-rule : goal.invariant-loop-rule
invariant-loop-rule l = l.small.items ≡ l.initial.small.items ++ map has_small_sides (take l.rule-index l.rules)
