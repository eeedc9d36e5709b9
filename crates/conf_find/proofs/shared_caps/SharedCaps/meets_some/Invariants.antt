use Rattle.std.proofs.Common.{take}
use Rattle.term_pool.proofs.RootRules.{NoneSuch}
use Rattle.trs_caps.proofs.MetRules.{Meets}
use Rattle.conf_find.specs.SharedCaps.{cap_at}
use Rattle.conf_find.proofs.shared_caps.SharedCaps.meets_some.Given as goal

abbrev pub invariant-loop-n : goal.invariant-loop-n
invariant-loop-n l = NoneSuch (Meets (cap_at l.self l.k)) l.rules (take l.n-index l.n-items)
