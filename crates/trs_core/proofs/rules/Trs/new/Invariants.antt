use Rattle.trs_core.proofs.RuleLists.{AreFaultless}
use Rattle.trs_core.proofs.rules.Trs.new.Given as goal

abbrev pub invariant-loop-i : goal.invariant-loop-i
invariant-loop-i l = AreFaultless l.arities.items l.rule-items l.i
