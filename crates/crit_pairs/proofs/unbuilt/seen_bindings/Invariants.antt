use Rattle.std.proofs.Common.{◌≡◌, map, take}
use Rattle.crit_pairs.specs.UnbuiltTop.{seen_pair, bound_pair}
use Rattle.crit_pairs.proofs.unbuilt.seen_bindings.Given as goal

abbrev pub invariant-loop-binding : goal.invariant-loop-binding
invariant-loop-binding l = map seen_pair l.seen.items ≡ map bound_pair (take l.binding-index l.bindings)
