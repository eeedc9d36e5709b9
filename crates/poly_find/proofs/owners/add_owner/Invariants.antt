use Rattle.poly_find.proofs.Starts.{AreOfOne}
use Rattle.poly_find.proofs.owners.add_owner.Given as goal

abbrev pub invariant-loop-part : goal.invariant-loop-part
invariant-loop-part l = AreOfOne l.f l.parts l.initial.owners.items l._part l.owners.items
