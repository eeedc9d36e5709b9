use Rattle.std.proofs.Common.{◌≡◌}
use Rattle.sampling.specs.Family.{rules_to}
use Rattle.sampling.proofs.rules.rules.Given as goal

abbrev pub invariant-loop-i : goal.invariant-loop-i
invariant-loop-i l = l.rules.items ≡ rules_to l.i
