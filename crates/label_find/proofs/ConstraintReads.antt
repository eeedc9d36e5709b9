-- The test of a constraint that is read.
use Rattle.std.specs.Prelude.{◌≡◌, ◌<◌, ℕ, Bool, List, [], ◌∷◌, Some, length, slice_get, get_or}
use Rattle.std.proofs.Common.{zero, suc, ap, sym, arith}
use Rattle.std.proofs.lemmas.Option.{same_Some}
use Rattle.label_find.specs.declared.constraint.PeakConstraint.{PeakConstraint}
use Rattle.label_find.specs.ConstraintPuzzle.{at_constraint}

pub at_this : (test : PeakConstraint → Bool) (ds : List PeakConstraint) (c : ℕ) (d : PeakConstraint) → slice_get ds c ≡ Some d → at_constraint test ds c ≡ test d
at_this test [] c d at = absurd cc
at_this test (x ∷ ds) zero d at = ap test (same_Some x d at)
at_this test (x ∷ ds) (suc c) d at = at_this test ds c d at

pub at_read : (test : PeakConstraint → Bool) (ds : List PeakConstraint) (c : ℕ) (d : PeakConstraint) → c < length ds → d ≡ get_or ds c d → at_constraint test ds c ≡ test d
at_read test [] c d below is = absurd (omega (arith, below))
at_read test (x ∷ ds) zero d below is = ap test (sym is)
at_read test (x ∷ ds) (suc c) d below is = at_read test ds c d (omega (arith, below)) is
