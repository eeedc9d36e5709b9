use Rattle.std.proofs.Common.{drop}
use Rattle.trs_caps.proofs.ShapeLaws.{TellVariables}
use Rattle.trs_caps.proofs.shapes.+is_ground.Given as goal

abbrev pub invariant-loop-arg : goal.invariant-loop-arg
invariant-loop-arg l = TellVariables (drop l.arg-index l.arg-items) l.arg-items
