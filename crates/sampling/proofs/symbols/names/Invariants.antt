use Rattle.std.proofs.Common.{◌≡◌, map}
use Rattle.sampling.specs.Family.{names_to}
use Rattle.sampling.proofs.symbols.names.Given as goal

abbrev pub invariant-loop-i : goal.invariant-loop-i
invariant-loop-i l = map (λ name. name.items) l.names.items ≡ names_to l.i
