use Rattle.std.proofs.Common.{◌≡◌, ◌++◌, map, drop}
use Rattle.completion_text.proofs.printing.names_of.Given as goal

abbrev pub invariant-loop-f : goal.invariant-loop-f
invariant-loop-f l = map (λ n. n.items) l.names.items ++ drop l.f l.system.names ≡ l.system.names
