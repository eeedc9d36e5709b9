use Rattle.crit_pairs.proofs.CyclesOfBindings.{IsAtMost}
use Rattle.crit_pairs.proofs.cycles.leads_back.Given as goal

abbrev pub invariant-loop-step : goal.invariant-loop-step
invariant-loop-step l = IsAtMost l.bindings.list.items l.current l.passed
