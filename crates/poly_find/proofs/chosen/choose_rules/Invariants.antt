use Rattle.std.proofs.Common.{◌≡◌, ◌++◌, map, drop, Some, slice_get}
use Rattle.poly_find.proofs.chosen.choose_rules.Given as goal

abbrev pub invariant-loop-n : goal.invariant-loop-n
invariant-loop-n l = map (slice_get l.rules) l.numbers ≡ map (λ x. Some x) l.chosen.items ++ map (slice_get l.rules) (drop l.n-index l.numbers)
