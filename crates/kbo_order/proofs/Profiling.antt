-- What the profile of a term on the left tells of a comparison.
use Rattle.std.proofs.Common.{◌≡◌, ℕ, ℤ, pos, ◌+◌, ◌+ℤ◌, ◌≤ℤ◌, ◌≤◌, ◌<◌, ◌↔◌, inl, inr, sym, ap, subst, arith, Bool, false, true, IsTrue, Ok, Option, None, List, Result, IfOk, Err}
use Rattle.std.proofs.lemmas.Bool.{cases_lt}
use Rattle.std.proofs.lemmas.Int.{ints}
use Rattle.trs_defs.specs.Tree.{Tree}
use Rattle.trs_defs.specs.LeastVariable.{least_variable, IsBelow}
use Rattle.trs_defs.specs.Variable.{occurrences}
use Rattle.trs_defs.proofs.LeastVariables.{none_below_least}
use Rattle.order_theory.specs.KnuthBendix.{weigh, KeepsOccurrences, KnuthGreater, KnuthWeak}
use Rattle.pair_order.specs.declared.pairs.TooBig.{TooBig}
use Rattle.kbo_order.specs.declared.balances.Side.TheVariants.{Left, Right}
use Rattle.kbo_order.specs.Balances.{difference_at, AreEven, AreDifferences, HaveNoDeficit, IsDifference, TermIsCounted}
use Rattle.kbo_order.specs.Seen.{IsWeight, Decides}
use Rattle.kbo_order.specs.Profiles.{AreOccurrences}
use Rattle.kbo_order.proofs.Differences.{count_le}
use Rattle.kbo_order.proofs.Knuth.{seen_of, not_same, heavier_or, greater_of}
use Rattle.kbo_order.specs.TooBig.{EitherIsBig}
use Rattle.kbo_order.proofs.Viewers.{not_big}

module _ (w : ℕ → ℕ) (size from : ℕ) where
  -- what is counted of one term, where nothing was counted before
  pub occurrences_counted : (t : Tree) (m : ℕ) (before after : List ℤ) → AreEven size before → IsWeight w t (Ok m) → TermIsCounted size from Left t before after
      → AreOccurrences size from t after
  occurrences_counted t m before after even is counted i small =
      let none : difference_at before i ≡ pos 0 = even i small in
      let le : occurrences (from + i) t ≤ weigh w t = count_le w (from + i) t in
      let light = is.1 in
      let e : difference_at after i ≡ difference_at before i +ℤ pos (occurrences (from + i) t) = counted i small (omega (arith, ints)) in
      omega (arith, ints)

  pub if_counted : (t : Tree) (r : Result ℕ TooBig) (before after : List ℤ) → AreEven size before → IsWeight w t r
      → IfOk r (λ _. TermIsCounted size from Left t before after) → IfOk r (λ _. AreOccurrences size from t after)
  if_counted t (Ok m) before after even is counted = occurrences_counted t m before after even is counted
  if_counted t (Err e) before after even is counted = counted

  -- the right term is counted after the left one
  pub differences_counted : (s t : Tree) (n : ℕ) (before after : List ℤ) → AreOccurrences size from s before → IsWeight w t (Ok n)
      → TermIsCounted size from Right t before after → AreDifferences size from s t after
  differences_counted s t n before after are is counted i small =
      let here : difference_at before i ≡ pos (occurrences (from + i) s) = are i small in
      let le : occurrences (from + i) t ≤ weigh w t = count_le w (from + i) t in
      let light = is.1 in
      let e : difference_at after i +ℤ pos (occurrences (from + i) t) ≡ difference_at before i = counted i small (omega (arith, ints)) in
      omega (arith, ints)

pub neither_big : (w : ℕ → ℕ) (s t : Tree) (m n : ℕ) → IsWeight w s (Ok m) → IsWeight w t (Ok n) → EitherIsBig w s t → ⊥
neither_big w s t m n left right (inl big) = not_big w s left.1 big
neither_big w s t m n left right (inr big) = not_big w t right.1 big

module _ (w rank : ℕ → ℕ) (s t : Tree) where
  at_most_as_heavy : KnuthGreater w rank s t → weigh w t ≤ weigh w s
  at_most_as_heavy g = elim (seen_of w rank 0 g).1 [ inl lt ↦ omega (arith, lt) | inr e ↦ omega (arith, e.0) ]

  pub lighter : weigh w s < weigh w t → KnuthWeak w rank s t → ⊥
  lighter lt (inl same) = let e : weigh w s ≡ weigh w t = ap (weigh w) same in omega (arith, lt, e)
  lighter lt (inr g) = omega (arith, lt, at_most_as_heavy g)

  pub unlike : weigh w t < weigh w s → s ≡ t → ⊥
  unlike lt same = let e : weigh w s ≡ weigh w t = ap (weigh w) same in omega (arith, lt, e)

  pub not_weak : (s ≡ t → ⊥) → (KnuthGreater w rank s t → ⊥) → KnuthWeak w rank s t → ⊥
  not_weak differ none (inl same) = differ same
  not_weak differ none (inr g) = none g

  -- no term is greater than itself
  pub only_weak : s ≡ t → KnuthGreater w rank s t → ⊥
  only_weak same g = not_same w rank 0 s t same (seen_of w rank 0 g)

  module _ (size : ℕ) (differences : List ℤ) (are : AreDifferences size 0 s t differences) where
    kept : KnuthGreater w rank s t → HaveNoDeficit size differences
    kept g i small =
        let le : occurrences (0 + i) t ≤ occurrences (0 + i) s = (seen_of w rank (0 + i) g).0 in
        let d : IsDifference (0 + i) s t (difference_at differences i) = are i small in
        omega (arith, ints)

    pub deficient : (b : Bool) → (IsTrue b ↔ HaveNoDeficit size differences) → b ≡ false → KnuthGreater w rank s t → ⊥
    deficient b is none g = let yes = is.1 (kept g) in absurd (cc (yes, none))

    pub keeps : HaveNoDeficit size differences → (o : Option ℕ) → o ≡ least_variable size None t → o ≡ None → KeepsOccurrences s t
    keeps none o e is v = elim (cases_lt v size) [
      | inl small ↦ let at : 0 + v ≡ v = omega arith in
          let d : IsDifference v s t (difference_at differences v) = subst (λ x. IsDifference x s t (difference_at differences v)) at (are v small) in
          let le : pos 0 ≤ℤ difference_at differences v = none v small in omega (arith, ints)
      | inr behind ↦ let absent = none_below_least size t o e v behind (subst (IsBelow v) (sym is) tt) in omega (arith, absent)
    ]

  -- terms of one weight whose roots decide
  module _ (level : weigh w s ≡ weigh w t) (b : Bool) (decides : (x : ℕ) → IsTrue b ↔ Decides w rank x s t) where
    pub undecided : b ≡ false → KnuthGreater w rank s t → ⊥
    undecided is g = let yes = (decides 0).1 (heavier_or w rank s t 0 level (seen_of w rank 0 g)) in absurd (cc (yes, is))

    pub decided : b ≡ true → KeepsOccurrences s t → KnuthGreater w rank s t
    decided is keep = greater_of w rank s t (λ x. (keep x, inr (level, (decides x).0 is)))
