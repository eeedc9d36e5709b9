use Rattle.std.proofs.Common.{◌≡◌, ◌++◌, drop}
use Rattle.crit_pairs.proofs.contracting.push_copies.Given as goal

abbrev pub invariant-loop-t : goal.invariant-loop-t
invariant-loop-t l = l.list.items ++ drop l.t-index l.terms ≡ l.fn.list.items ++ l.terms
