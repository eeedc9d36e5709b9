use Rattle.std.proofs.Common.{◌≡◌, take}
use Rattle.cert_step.proofs.step.copy_joins.Given as goal

abbrev pub invariant-loop-join : goal.invariant-loop-join
invariant-loop-join l = l.copies.items ≡ take l.join-index l.joins
