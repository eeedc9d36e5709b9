-- Whether each number stands in one ascending list at least as often as in another, as a loop finds it.
use Rattle.std.specs.Prelude.{◌≡◌, ◌≢◌, ◌≤◌, ◌<◌, ◌+◌, ◌==◌, ◌↔◌, ◌⊎◌, ℕ, cond, nat_eq, IsTrue, List, [], ◌∷◌, length, drop, get_or}
use Rattle.std.specs.List.Sorted.{IsNonDecreasing}
use Rattle.std.proofs.Common.{suc, refl, sym, ap, subst, inl, inr, arith, ◌∙◌, length-drop}
use Rattle.std.proofs.lemmas.Bool.{cases_lt}
use Rattle.std.proofs.lemmas.Bool.Decides.{nat_tests}
use Rattle.std.proofs.lemmas.List.{drop_all, get_or_default, get_or-drop}
use Rattle.std.proofs.lemmas.List.Sums.{sum_by-cons}
use Rattle.trs_defs.proofs.ArgumentLists.{cell}
use Rattle.order_search.proofs.Tests.{same_number}
use Rattle.kbo_find.specs.Occurring.{times_in, StandAsOften}
use Rattle.kbo_find.proofs.KnuthDecides.{is_eq}

abbrev is_it : ℕ → ℕ → ℕ
is_it v n = cond (n == v) 1 0

one_more : (v n : ℕ) (ns : List ℕ) → times_in v (n ∷ ns) ≡ is_it v n + times_in v ns
one_more v n ns = sum_by-cons (is_it v) n ns

is_itself : (v : ℕ) → is_it v v ≡ 1
is_itself v = grind (arith, nat_tests)

is_other : (v n : ℕ) → v < n → is_it v n ≡ 0
is_other v n less = grind (arith, nat_tests)

-- all numbers of the list are above this one
abbrev AreAbove : ℕ → List ℕ → Type 0
AreAbove v ns = (k : ℕ) → k < length ns → v < get_or ns k 0

absent : (v : ℕ) (ns : List ℕ) → AreAbove v ns → times_in v ns ≡ 0
absent v [] h = refl
absent v (n ∷ ns) h =
    let none = is_other v n (h 0 (omega arith)) in
    let rest = absent v ns (λ k l. h (suc k) (omega (arith, l))) in
    omega (arith, one_more v n ns, none, rest)

above_from : (ns : List ℕ) (i v : ℕ) → IsNonDecreasing ns → v < get_or ns i 0 → AreAbove v (drop i ns)
above_from ns i v up less k l =
    let long = length-drop i ns in
    let later : get_or ns i 0 ≤ get_or ns (i + k) 0 = up i (i + k) 0 (omega arith) (omega (arith, l, long)) in
    omega (arith, less, later, get_or-drop i ns k 0)

module _ (x : ℕ) (rest few : List ℕ) where
  -- the first number of both
  both_next : StandAsOften (x ∷ rest) (x ∷ few) ↔ StandAsOften rest few
  both_next = (
    λ h v. omega (arith, h v, one_more v x rest, one_more v x few),
    λ h v. omega (arith, h v, one_more v x rest, one_more v x few),
  )

  -- a first number that the others lack
  first_unused : times_in x few ≡ 0 → StandAsOften (x ∷ rest) few ↔ StandAsOften rest few
  first_unused none = (
    λ h v. without v (h v),
    λ h v. omega (arith, h v, one_more v x rest),
  )
    where
      at : (v : ℕ) → (is_it v x ≡ 0) ⊎ (x ≡ v)
      at v = grind (arith, nat_tests)

      without : (v : ℕ) → times_in v few ≤ times_in v (x ∷ rest) → times_in v few ≤ times_in v rest
      without v h = elim (at v) [
        | inl other ↦ omega (arith, h, one_more v x rest, other)
        | inr same ↦ let lacks : times_in v few ≡ 0 = ap (λ (u : ℕ). times_in u few) (sym same) ∙ none in omega (arith, lacks)
      ]

  -- a first number above one that is sought
  first_past : (y : ℕ) → times_in y (x ∷ rest) ≡ 0 → StandAsOften (x ∷ rest) (y ∷ few) ↔ StandAsOften rest (y ∷ few)
  first_past y none = (
    λ h. absurd (omega (arith, h y, none, one_more y y few, is_itself y)),
    λ h v. omega (arith, h v, one_more v x rest),
  )

module _ (many few : List ℕ) where
  -- the numbers from i on are to contain those that are not found yet
  pub record ComesTo (i found : ℕ) : Type 0 where
    pub within : found ≤ length few
    pub as_well : StandAsOften many few ↔ StandAsOften (drop i many) (drop found few)

  pub comes_first : ComesTo 0 0
  comes_first = record { within = omega arith; as_well = (λ h. h, λ h. h) }

  joined : {A B C : Type 0} → (A ↔ B) → (B ↔ C) → A ↔ C
  joined p q = (λ a. q.0 (p.0 a), λ c. p.1 (q.1 c))

  module _ (i found x : ℕ) (below : i < length many) (is : x ≡ get_or many i 0) (h : ComesTo i found) where
    opened : drop i many ≡ x ∷ drop (i + 1) many
    opened = cell many i x below (is ∙ get_or_default many i 0 x below)

    before : StandAsOften many few ↔ StandAsOften (x ∷ drop (i + 1) many) (drop found few)
    before = subst (λ (ns : List ℕ). StandAsOften many few ↔ StandAsOften ns (drop found few)) opened h.as_well

    sought : (y : ℕ) → found < length few → y ≡ get_or few found 0 → drop found few ≡ y ∷ drop (found + 1) few
    sought y left e = cell few found y left (e ∙ get_or_default few found 0 y left)

    pub is_found : found < length few → get_or few found 0 ≡ x → ComesTo (i + 1) (found + 1)
    is_found left same = record {
      within = omega (arith, left);
      as_well = joined (subst (λ (ns : List ℕ). StandAsOften many few ↔ StandAsOften (x ∷ drop (i + 1) many) ns) (sought x left (sym same)) before)
          (both_next x (drop (i + 1) many) (drop (found + 1) few));
    }

    unused : times_in x (drop found few) ≡ 0 → ComesTo (i + 1) found
    unused none = record { within = h.within; as_well = joined before (first_unused x (drop (i + 1) many) (drop found few) none) }

    pub all_found : length few ≤ found → ComesTo (i + 1) found
    all_found past = unused (ap (λ (ns : List ℕ). times_in x ns) (drop_all found few past))

    module _ (up_many : IsNonDecreasing many) (up_few : IsNonDecreasing few) where
      past_it : (y : ℕ) → y < x → found < length few → y ≡ get_or few found 0 → ComesTo (i + 1) found
      past_it y less left e =
          let next = sought y left e in
          let lacks : times_in y (x ∷ drop (i + 1) many) ≡ 0 =
          ap (λ (ns : List ℕ). times_in y ns) (sym opened) ∙ absent y (drop i many) (above_from many i y up_many (omega (arith, less, is))) in
          let step = first_past x (drop (i + 1) many) (drop (found + 1) few) y lacks in
          record {
            within = h.within;
            as_well = joined before (subst (λ (ns : List ℕ). StandAsOften (x ∷ drop (i + 1) many) ns ↔ StandAsOften (drop (i + 1) many) ns) (sym next) step);
          }

      pub is_other_one : found < length few → get_or few found 0 ≢ x → ComesTo (i + 1) found
      is_other_one left differs = elim (cases_lt x (get_or few found 0)) [
        | inl less ↦ unused (absent x (drop found few) (above_from few found x up_few less))
        | inr most ↦ past_it (get_or few found 0) (omega (arith, most, differs)) left refl
      ]

  module _ (i found : ℕ) (past : length many ≤ i) (h : ComesTo i found) where
    at_end : StandAsOften many few ↔ StandAsOften [] (drop found few)
    at_end = subst (λ (ns : List ℕ). StandAsOften many few ↔ StandAsOften ns (drop found few)) (drop_all i many past) h.as_well

    stand : found ≡ length few → StandAsOften many few
    stand e =
        let none : drop found few ≡ [] = drop_all found few (omega (arith, e)) in
        at_end.1 (subst (λ (ns : List ℕ). StandAsOften [] ns) (sym none) (λ v. omega arith))

    found_all : StandAsOften many few → found ≡ length few
    found_all all = elim (cases_lt found (length few)) [
      | inl left ↦ absurd (lacks (get_or few found 0) (cell few found (get_or few found 0) left (get_or_default few found 0 (get_or few found 0) left)))
      | inr most ↦ omega (arith, most, h.within)
    ]
      where
        lacks : (y : ℕ) → drop found few ≡ y ∷ drop (found + 1) few → ⊥
        lacks y e =
            let one : times_in y (drop found few) ≡ times_in y (y ∷ drop (found + 1) few) = ap (λ (ns : List ℕ). times_in y ns) e in
            omega (arith, at_end.0 all y, one, one_more y y (drop (found + 1) few), is_itself y)

    pub ended : IsTrue (nat_eq found (length few)) ↔ StandAsOften many few
    ended = (λ e. stand (same_number found (length few) e), λ all. is_eq found (length few) (found_all all))
