use Rattle.std.proofs.Common.{◌≡◌, take}
use Rattle.cert_step.proofs.step.copy_fours.Given as goal

abbrev pub invariant-loop-four : goal.invariant-loop-four
invariant-loop-four l = l.copies.items ≡ take l.four-index l.fours
