use Rattle.join_find.specs.First.{Some_in}
use Rattle.conf_find.specs.Marks.{AreParted}
use Rattle.conf_find.proofs.PeakList.{ArePassed}
use Rattle.conf_find.proofs.parting.first_parted.Given as goal

abbrev pub invariant-loop-i : goal.invariant-loop-i
invariant-loop-i g l = ArePassed (λ left. Some_in (AreParted g.M.Marks.never_meet l.by_root.rules l.pool left) l.rights → ⊥) l.lefts l.i
