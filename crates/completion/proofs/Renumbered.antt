-- Two terms renumbered one after another are variants of the two, and their variables are numbered in order.
use Rattle.std.proofs.Common.{◌≡◌, ◌<◌, ◌≤◌, ℕ, ◌+◌, zero, suc, refl, sym, ap, subst, arith, ◌∙◌, List, [], ◌∷◌, ◌++◌, length, Some, IsTrue, slice_get, length-append}
use Rattle.std.proofs.Math.Decide.{ℕ_discrete}
use Rattle.std.proofs.lemmas.Option.{slice_get-get_or, same_Some}
use Rattle.trs_defs.specs.Tree.{Tree, var}
use Rattle.trs_defs.specs.Variable.{has_var, variables_of, with_variables}
use Rattle.trs_defs.specs.Substitution.{apply}
use Rattle.trs_defs.proofs.Substitutions.{apply_apply, same_instance}
use Rattle.trs_unify.specs.Renamed.{old_name, IsRenamed}
use Rattle.trs_unify.proofs.NewNames.{renamed_still}
use Rattle.crit_pairs.specs.PeakList.{IsCount}
use Rattle.crit_pairs.specs.Sides.{IsDistinct}
use Rattle.crit_pairs.proofs.Renumbering.{first_count}
use Rattle.trs_defs.proofs.NamedTerms.{unchanged}
use Rattle.completion.specs.Orienting.{AreVariants}

-- the place of a name
abbrev at_name : {x v : ℕ} → Dec (x ≡ v) → ℕ → ℕ
at_name (yes e) later = 0
at_name (no n) later = suc later

abbrev index : List ℕ → ℕ → ℕ
index [] v = 0
index (x ∷ xs) v = at_name (ℕ_discrete x v) (index xs v)

at_first : {x v : ℕ} (d : Dec (x ≡ v)) (later : ℕ) → x ≡ v → at_name d later ≡ 0
at_first (yes e) later h = refl
at_first (no n) later h = absurd (n h)

at_later : {x v : ℕ} (d : Dec (x ≡ v)) (later : ℕ) → (x ≡ v → ⊥) → at_name d later ≡ suc later
at_later (yes e) later h = absurd (h e)
at_later (no n) later h = refl

later_distinct : (x : ℕ) (xs : List ℕ) → IsDistinct (x ∷ xs) → IsDistinct xs
later_distinct x xs distinct i j v e k = let same : suc i ≡ suc j = distinct (suc i) (suc j) v e k in omega (arith, same)

index_of : (order : List ℕ) → IsDistinct order → (i v : ℕ) → slice_get order i ≡ Some v → index order v ≡ i
index_of [] distinct i v e = absurd cc
index_of (x ∷ xs) distinct zero v e = at_first (ℕ_discrete x v) (index xs v) (same_Some x v e)
index_of (x ∷ xs) distinct (suc i) v e =
    let other : x ≡ v → ⊥ = λ same. (let clash : zero ≡ suc i = distinct zero (suc i) v (ap (λ z. Some z) same) e in absurd (omega (arith, clash))) in
    at_later (ℕ_discrete x v) (index xs v) other ∙ ap suc (index_of xs (later_distinct x xs distinct) i v e)

module _ (first second : List ℕ) (s t l r : Tree) (left : IsRenamed [] first s l) (right : IsRenamed first second t r) (distinct : IsDistinct second) where
  longer : length first ≤ length second
  longer =
      let sum : length (first ++ right.more) ≡ length first + length right.more = length-append first right.more in
      let grown : length second ≡ length (first ++ right.more) = ap length right.grown in
      omega (arith, sum, grown)

  back_name : (v : ℕ) → v < length second → index second (old_name second v) ≡ v
  back_name v h = index_of second distinct v (old_name second v) (slice_get-get_or second v 0 h)

  turned_back : (u w : Tree) → apply (λ v. var (old_name second v)) w ≡ u → ((v : ℕ) → IsTrue (has_var v w) → v < length second)
      → apply (λ v. var (index second v)) u ≡ w
  turned_back u w e inside =
      ap (apply (λ v. var (index second v))) (sym e)
      ∙ (apply_apply (λ v. var (index second v)) (λ v. var (old_name second v)) w
      ∙ (same_instance (λ v. var (index second (old_name second v))) (λ v. var v) w (λ v h. ap var (back_name v (inside v h))) ∙ unchanged w))

  left_back : apply (λ v. var (old_name second v)) l ≡ s
  left_back = renamed_still [] first second right.more s l right.grown left

  pub variants : AreVariants s t l r
  variants = record {
    names = old_name second;
    back = index second;
    left_from = left_back;
    right_from = right.back;
    left_to = turned_back s l left_back (λ v h. (let a : v < length first = left.inside v h in let b = longer in omega (arith, a, b)));
    right_to = turned_back t r right.back right.inside;
  }

  pub left_counted : IsCount 0 (variables_of l)
  left_counted = subst (λ vs. IsCount 0 vs) (sym left.counted) (first_count (length first))

  pub both_counted : IsCount 0 (with_variables (variables_of l) r)
  both_counted = subst (λ vs. IsCount 0 vs) (sym (ap (λ vs. with_variables vs r) left.counted ∙ right.counted)) (first_count (length second))
