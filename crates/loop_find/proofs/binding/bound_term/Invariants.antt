use Rattle.std.proofs.Common.{◌≡◌, drop}
use Rattle.loop_find.specs.Bindings.{term_for}
use Rattle.loop_find.proofs.binding.bound_term.Given as goal

abbrev pub invariant-loop-binding : goal.invariant-loop-binding
invariant-loop-binding l = term_for (drop l.binding-index l.found) l.v ≡ term_for l.found l.v
