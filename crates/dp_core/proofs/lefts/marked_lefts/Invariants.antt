use Rattle.dp_core.proofs.LeftNumbering.{AreFirstLefts}
use Rattle.dp_core.proofs.lefts.marked_lefts.Given as goal

abbrev pub invariant-loop-rule : goal.invariant-loop-rule
invariant-loop-rule l = AreFirstLefts l.rules l.terms.items l.rule-index
