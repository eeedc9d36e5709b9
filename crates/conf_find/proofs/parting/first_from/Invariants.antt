use Rattle.conf_find.specs.Marks.{AreParted}
use Rattle.conf_find.proofs.PeakList.{ArePassed}
use Rattle.conf_find.proofs.parting.first_from.Given as goal

abbrev pub invariant-loop-j : goal.invariant-loop-j
invariant-loop-j g l = ArePassed (λ other. AreParted g.M.Marks.never_meet l.by_root.rules l.pool l.left other → ⊥) l.rights l.j
