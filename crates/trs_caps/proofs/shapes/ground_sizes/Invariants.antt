use Rattle.trs_caps.proofs.ShapeLaws.{SizesSoFar}
use Rattle.trs_caps.proofs.shapes.ground_sizes.Given as goal

abbrev pub invariant-loop-rule : goal.invariant-loop-rule
invariant-loop-rule l = SizesSoFar l.rules l.sizes.items l.rule-index
