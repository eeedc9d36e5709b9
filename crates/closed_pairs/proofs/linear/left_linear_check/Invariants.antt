use Rattle.rewrite_core.proofs.Items.{Passed}
use Rattle.closed_pairs.specs.LinearRules.{is_left_linear}
use Rattle.closed_pairs.proofs.linear.left_linear_check.Given as goal

abbrev pub invariant-loop-n : goal.invariant-loop-n
invariant-loop-n l = Passed is_left_linear l.trs.rules l.n
