-- What the values of the spans say of a constraint, and that small rules have no big coefficients where it is asked.
use Rattle.std.specs.Prelude.{◌≡◌, ◌<◌, ◌≤◌, ℕ, ◌+◌, Bool, true, false, ◌||◌, nat_lt, if◌then◌else◌, List, [], ◌∷◌, ◌++◌, length, map, get_or, Some, None, option_map, slice_get}
use Rattle.std.proofs.Common.{zero, suc, inl, inr, refl, sym, ap, ap₂, subst, arith, ◌∙◌}
use Rattle.std.proofs.lemmas.Option.{slice_get-map, get_or_from_slice_get}
use Rattle.trs_defs.specs.Variable.{is_listed}
use Rattle.trs_defs.specs.System.{RewriteRule}
use Rattle.assign_search.specs.Puzzle.{Covers}
use Rattle.assign_search.proofs.Refuting.{true_or_false}
use Rattle.order_search.specs.Slots.{Slot, slot, table_of, puzzle_of}
use Rattle.order_search.specs.OrderSpace.{parts_from, slots_of, arity_with_mark, some_falls}
use Rattle.order_search.specs.Distinct.{AreDistinct}
use Rattle.order_search.proofs.Constraints.{truth_falls, truth_last, uses_all, uses_symbols, last_number}
use Rattle.order_search.proofs.Tests.{lt_is}
use Rattle.poly_find.specs.declared.spans.Span.{Span}
use Rattle.poly_find.specs.LinearTest.{linear_weak, linear_strict}
use Rattle.poly_find.specs.PolySpace.{poly_family, coefficient_by}
use Rattle.poly_find.specs.PolyRow.{poly_search}
use Rattle.poly_find.specs.PolyPlaces.{parts_by, starts}
use Rattle.poly_find.specs.PolyDepends.{weak_same, strict_same}
use Rattle.poly_find.specs.Spans.{span, in_span, span_of, said_by, AreSpans}
use Rattle.poly_find.specs.SmallTerms.{has_small_sides, IsSafe}
use Rattle.poly_find.proofs.SpanValues.{listed_place, said_is}
use Rattle.poly_find.proofs.SmallCoefficients.{safe}

-- ---- the slot of a part

part_there : (f from n j : ℕ) (ys : List Slot) (d : Slot) → j < n → get_or (parts_from f from n ++ ys) j d ≡ slot f (from + j)
part_there f from zero j ys d below = absurd (omega (arith, below))
part_there f from (suc n) zero ys d below = let at : from ≡ from + 0 = omega arith in ap (λ (p : ℕ). slot f p) at
part_there f from (suc n) (suc j) ys d below =
    let at : suc from + j ≡ from + suc j = omega arith in
    part_there f (suc from) n j ys d (omega (arith, below)) ∙ ap (λ (p : ℕ). slot f p) at

parts_behind : (f from n j : ℕ) (ys : List Slot) (d : Slot) → get_or (parts_from f from n ++ ys) (n + j) d ≡ get_or ys j d
parts_behind f from zero j ys d = let at : 0 + j ≡ j = omega arith in ap (λ (k : ℕ). get_or ys k d) at
parts_behind f from (suc n) j ys d =
    let at : suc n + j ≡ suc (n + j) = omega arith in
    ap (λ (k : ℕ). get_or (parts_from f from (suc n) ++ ys) k d) at ∙ parts_behind f (suc from) n j ys d

parts_count : (f from n : ℕ) (ys : List Slot) → length (parts_from f from n ++ ys) ≡ n + length ys
parts_count f from zero ys = omega arith
parts_count f from (suc n) ys = let rest = parts_count f (suc from) n ys in omega (arith, rest)

module _ (parts : ℕ → ℕ) where
  slot_of_part : (symbols : List ℕ) (k i : ℕ) → k < length symbols → i < parts (get_or symbols k 0)
      → (starts parts symbols k + i < length (slots_of parts symbols))
      × (get_or (slots_of parts symbols) (starts parts symbols k + i) (slot 0 0) ≡ slot (get_or symbols k 0) i)
  slot_of_part [] k i within below = absurd (omega (arith, within))
  slot_of_part (f ∷ symbols) zero i within below =
      let many = parts_count f 0 (parts f) (slots_of parts symbols) in
      let at : 0 + i ≡ i = omega arith in (
        omega (arith, many, below),
        ap (λ (k : ℕ). get_or (parts_from f 0 (parts f) ++ slots_of parts symbols) k (slot 0 0)) at
            ∙ (part_there f 0 (parts f) i (slots_of parts symbols) (slot 0 0) below ∙ ap (λ (p : ℕ). slot f p) at),
      )
  slot_of_part (f ∷ symbols) (suc k) i within below =
      let rest = slot_of_part symbols k i (omega (arith, within)) below in
      let many = parts_count f 0 (parts f) (slots_of parts symbols) in
      let at : parts f + starts parts symbols k + i ≡ parts f + (starts parts symbols k + i) = omega arith in (
        omega (arith, many, rest.0),
        ap (λ (j : ℕ). get_or (parts_from f 0 (parts f) ++ slots_of parts symbols) j (slot 0 0)) at
            ∙ (parts_behind f 0 (parts f) (starts parts symbols k + i) (slots_of parts symbols) (slot 0 0) ∙ rest.1),
      )

-- ---- constraints

behind_rules : (rules pairs : List RewriteRule) (k : ℕ) (r : RewriteRule) → slice_get pairs k ≡ Some r → slice_get (rules ++ pairs) (length rules + k) ≡ Some r
behind_rules [] pairs k r at = let first : 0 + k ≡ k = omega arith in ap (λ (j : ℕ). slice_get pairs j) first ∙ at
behind_rules (q ∷ rules) pairs k r at =
    let next : suc (length rules) + k ≡ suc (length rules + k) = omega arith in
    ap (λ (j : ℕ). slice_get (q ∷ rules ++ pairs) j) next ∙ behind_rules rules pairs k r at

within_span : (values : List ℕ) (s : Span) (i : ℕ) → (i < s.parts → get_or values (s.start + i) 0 ≤ 2) → in_span values s i ≤ 2
within_span values s i low = go (nat_lt i s.parts) refl
  where
    go : (b : Bool) → nat_lt i s.parts ≡ b → (if b then get_or values (s.start + i) 0 else 0) ≤ 2
    go true e = low (lt_is i s.parts e)
    go false e = omega arith

module _ (arities symbols : List ℕ) (rules pairs : List RewriteRule) (spans : List Span) (distinct : AreDistinct symbols) (are : AreSpans arities symbols spans) (c : ℕ) (values : List ℕ) where
  -- the values of a symbol's slots are at most 2 where the constraint uses them
  at_most_two : Covers (puzzle_of (poly_search arities symbols rules pairs)) c values
      → (f : ℕ) → ((s part : ℕ) → s < length (slots_of (parts_by arities) symbols) → get_or (slots_of (parts_by arities) symbols) s (slot 0 0) ≡ slot f part
      → (puzzle_of (poly_search arities symbols rules pairs)).uses c s ≡ true) → (i : ℕ) → said_by spans values f i ≤ 2
  at_most_two covers f used i = elim (true_or_false (is_listed f symbols)) [
    | inl there ↦
        (let (k, below, e) = listed_place f symbols there in
        let own : span_of spans f ≡ span (starts (parts_by arities) symbols k) (parts_by arities (get_or symbols k 0)) = subst (λ (g : ℕ). span_of spans g ≡ span (starts (parts_by arities) symbols k) (parts_by arities (get_or symbols k 0))) e (are.each k below) in
        subst (λ s. in_span values s i ≤ 2) (sym own)
        (within_span values (span (starts (parts_by arities) symbols k) (parts_by arities (get_or symbols k 0))) i
        (λ small.
        let at = slot_of_part (parts_by arities) symbols k i below small in
        let value = covers (starts (parts_by arities) symbols k + i) at.0
        (used (starts (parts_by arities) symbols k + i) i at.0 (at.1 ∙ ap (λ (g : ℕ). slot g i) e)) in
        omega (arith, value.1))))
    | inr missing ↦ subst (λ s. in_span values s i ≤ 2) (sym (are.others f missing)) (within_span values (span 0 0) i (λ none. absurd (omega (arith, none))))
  ]

  flag_of : (flags : List Bool) → flags ≡ map has_small_sides (rules ++ pairs) → (k : ℕ) (r : RewriteRule) → slice_get (rules ++ pairs) k ≡ Some r
      → get_or flags k false ≡ has_small_sides r
  flag_of flags is k r at =
      ap (λ l. get_or l k false) is
      ∙ get_or_from_slice_get (map has_small_sides (rules ++ pairs)) k (has_small_sides r) false
      (slice_get-map has_small_sides (rules ++ pairs) k ∙ ap (option_map has_small_sides) at)

  module _ (small : List Bool) (small_are : small ≡ map has_small_sides (rules ++ pairs)) (covers : Covers (puzzle_of (poly_search arities symbols rules pairs)) c values) where
    pub rule_is_safe : (r : RewriteRule) → slice_get (rules ++ pairs) c ≡ Some r → IsSafe (said_by spans values) (get_or small c false) r
    rule_is_safe r at =
        safe (said_by spans values) r
        (λ f here. at_most_two covers f (λ s part below is. uses_symbols (poly_family (arity_with_mark arities)) symbols rules pairs c s r f part at below is ∙ here))
        (get_or small c false) (flag_of small small_are c r at)

    pub pair_is_safe : slice_get (rules ++ pairs) c ≡ None → c < (puzzle_of (poly_search arities symbols rules pairs)).constraints
        → (k : ℕ) (r : RewriteRule) → slice_get pairs k ≡ Some r → IsSafe (said_by spans values) (get_or small (length rules + k) false) r
    pair_is_safe none below k r at =
        safe (said_by spans values) r
        (λ f here. at_most_two covers f (λ s part there is. uses_all (poly_family (arity_with_mark arities)) symbols rules pairs c s
        (last_number (poly_family (arity_with_mark arities)) symbols rules pairs c none below) there))
        (get_or small (length rules + k) false) (flag_of small small_are (length rules + k) r (behind_rules rules pairs k r at))

  -- what the spans say is what the values say
  weak_said : (r : RewriteRule) → linear_weak (said_by spans values) r.left r.right
      ≡ linear_weak (coefficient_by (arity_with_mark arities) (table_of (slots_of (parts_by arities) symbols) values)) r.left r.right
  weak_said r =
      weak_same (said_by spans values) (coefficient_by (arity_with_mark arities) (table_of (slots_of (parts_by arities) symbols) values)) r.left r.right
      (λ f _. said_is arities symbols values spans distinct are f)

  some_said : (rs : List RewriteRule) → some_falls (linear_strict (said_by spans values)) rs
      ≡ some_falls (linear_strict (coefficient_by (arity_with_mark arities) (table_of (slots_of (parts_by arities) symbols) values))) rs
  some_said [] = refl
  some_said (r ∷ rs) =
      ap₂ (λ a b. a || b)
      (strict_same (said_by spans values) (coefficient_by (arity_with_mark arities) (table_of (slots_of (parts_by arities) symbols) values)) r.left r.right
      (λ f _. said_is arities symbols values spans distinct are f)) (some_said rs)

  pub truth_of_falling : (r : RewriteRule) (b : Bool) → slice_get (rules ++ pairs) c ≡ Some r → b ≡ linear_weak (said_by spans values) r.left r.right
      → b ≡ (puzzle_of (poly_search arities symbols rules pairs)).truth c values
  truth_of_falling r b at e = e ∙ (weak_said r ∙ sym (truth_falls (poly_family (arity_with_mark arities)) symbols rules pairs c values r at))

  pub truth_of_some : (b : Bool) → slice_get (rules ++ pairs) c ≡ None → c < (puzzle_of (poly_search arities symbols rules pairs)).constraints
      → b ≡ some_falls (linear_strict (said_by spans values)) pairs → b ≡ (puzzle_of (poly_search arities symbols rules pairs)).truth c values
  truth_of_some b none below e =
      e ∙ (some_said pairs ∙ sym (truth_last (poly_family (arity_with_mark arities)) symbols rules pairs c values
      (last_number (poly_family (arity_with_mark arities)) symbols rules pairs c none below)))
