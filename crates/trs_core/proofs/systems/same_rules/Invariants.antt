use Rattle.std.proofs.Common.{◌≡◌, ◌↔◌, drop}
use Rattle.trs_core.proofs.systems.same_rules.Given as goal

abbrev pub invariant-loop-i : goal.invariant-loop-i
invariant-loop-i l = (drop l.i l.rules ≡ drop l.i l.others) ↔ (l.rules ≡ l.others)
