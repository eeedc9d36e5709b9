use Rattle.std.proofs.Common.{◌≡◌, drop}
use Rattle.label_find.specs.Constraint.{some_fit}
use Rattle.label_find.specs.Grouping.{front_to}
use Rattle.label_find.proofs.constraint.some_fit.Given as goal

abbrev pub invariant-loop-list : goal.invariant-loop-list
invariant-loop-list l = some_fit l.ranks l.a l.b (front_to l.end (drop l.list-index l.lists)) ≡ some_fit l.ranks l.a l.b (front_to l.end l.lists)
