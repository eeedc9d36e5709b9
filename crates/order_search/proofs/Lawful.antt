-- The puzzle of a search is lawful where each constraint depends only on the slots that it is about.
use Rattle.std.specs.Prelude.{ℕ, ◌+◌, ◌<◌, Bool, true, false, ◌&&◌, ◌==◌, nat_lt, if◌then◌else◌, List, [], ◌∷◌, length, get_or, ◌≡◌}
use Rattle.std.proofs.Common.{zero, suc, refl, sym, ap₂, subst, arith, ◌⊎◌, inl, inr}
use Rattle.assign_search.specs.Puzzle.{IsLawful}
use Rattle.order_search.specs.Slots.{Slot, slot, table_from, table_of, Search, at_constraint, puzzle_of, DependsOnSlots}
use Rattle.order_search.proofs.Tests.{same_number, lt_is, is_lt}

pub both_true : (a b : Bool) → a && b ≡ true → (a ≡ true) × (b ≡ true)
both_true true b e = (refl, e)
both_true false b e = absurd cc

pub and_true : (a b : Bool) → a ≡ true → b ≡ true → a && b ≡ true
and_true true b d e = e
and_true false b d e = absurd cc

true_or_false : (b : Bool) → (b ≡ true) ⊎ (b ≡ false)
true_or_false true = inl refl
true_or_false false = inr refl

same_slot : (s : Slot) (f part : ℕ) → s.symbol == f && s.part == part ≡ true → s ≡ slot f part
same_slot s f part e =
    let b = both_true (s.symbol == f) (s.part == part) e in
    let same : s.symbol ≡ f = same_number s.symbol f b.0 in
    let also : s.part ≡ part = same_number s.part part b.1 in
    ap₂ slot same also

choose : {A : Type 0} (b : Bool) (x y u v : A) → (b ≡ true → x ≡ u) → y ≡ v → (if b then x else y) ≡ (if b then u else v)
choose true x y u v first later = first refl
choose false x y u v first later = later

-- values that agree at the slots that pass a test make tables that agree there
same_from : (about : Slot → Bool) (k : ℕ) (slots : List Slot) (p q : List ℕ)
    → ((s : ℕ) → s < length slots → about (get_or slots s (slot 0 0)) ≡ true → get_or p (k + s) 0 ≡ get_or q (k + s) 0)
    → (f part : ℕ) → about (slot f part) ≡ true → table_from k slots p f part ≡ table_from k slots q f part
same_from about k [] p q same f part here = refl
same_from about k (s ∷ slots) p q same f part here =
    choose (s.symbol == f && s.part == part) _ _ _ _
    (λ e.
    let first : get_or p (k + 0) 0 ≡ get_or q (k + 0) 0 = same 0 (omega arith) (subst (λ x. about x ≡ true) (sym (same_slot s f part e)) here) in
    let at : k + 0 ≡ k = omega arith in
    subst (λ (i : ℕ). get_or p i 0 ≡ get_or q i 0) at first)
    (same_from about (suc k) slots p q
    (λ i below uses.
    let next : get_or p (k + suc i) 0 ≡ get_or q (k + suc i) 0 = same (suc i) (omega (arith, below)) uses in
    let at : k + suc i ≡ suc k + i = omega arith in
    subst (λ (j : ℕ). get_or p j 0 ≡ get_or q j 0) at next)
    f part here)

module _ {C : Type 0} (sought : Search C) (depends : DependsOnSlots sought) where
  same_truth : (ds : List C) (c : ℕ) (p q : List ℕ)
      → ((s : ℕ) → s < length sought.slots → at_constraint (λ d. sought.is_about d (get_or sought.slots s (slot 0 0))) ds c ≡ true → get_or p s 0 ≡ get_or q s 0)
      → at_constraint (λ d. sought.is_met d (table_of sought.slots p)) ds c ≡ at_constraint (λ d. sought.is_met d (table_of sought.slots q)) ds c
  same_truth [] c p q same = refl
  same_truth (d ∷ ds) zero p q same =
      depends.each d (table_of sought.slots p) (table_of sought.slots q)
      (λ f part here. same_from (sought.is_about d) 0 sought.slots p q
      (λ s below uses.
      let at : s ≡ 0 + s = omega arith in
      subst (λ (i : ℕ). get_or p i 0 ≡ get_or q i 0) at (same s below uses))
      f part here)
  same_truth (d ∷ ds) (suc c) p q same = same_truth ds c p q same

  pub lawful_of : IsLawful (puzzle_of sought)
  lawful_of = record {
    within = λ c s below uses. lt_is s (length sought.slots) (both_true (nat_lt s (length sought.slots)) _ uses).0;
    depends = λ c p q below cp cq same. same_truth sought.constraints c p q (λ s within uses. same s (and_true (nat_lt s (length sought.slots)) _ (is_lt s (length sought.slots) within) uses));
  }
