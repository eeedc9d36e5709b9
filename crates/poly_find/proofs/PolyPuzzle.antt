-- The search for a linear interpretation by the numbers of its slots and constraints.
use Rattle.std.specs.Prelude.{◌≡◌, ◌<◌, ℕ, ◌+◌, Bool, true, false, ◌||◌, List, [], ◌∷◌, ◌++◌, length, get_or, map, Some, None, slice_get}
use Rattle.std.proofs.Common.{zero, suc, refl, sym, ap, arith, ◌∙◌}
use Rattle.std.proofs.lemmas.List.{length-map}
use Rattle.trs_defs.specs.Variable.{is_listed}
use Rattle.trs_defs.specs.System.{RewriteRule}
use Rattle.trs_defs.proofs.Members.{in_of_get, in_right}
use Rattle.poly_lin.specs.Table.{coefficient_in}
use Rattle.assign_search.specs.Rest.{reach}
use Rattle.order_search.specs.Ends.{end_among}
use Rattle.order_search.specs.Slots.{Slot, slot, table_of, puzzle_of}
use Rattle.order_search.specs.OrderSpace.{AreCovered, arity_with_mark, slots_of, some_falls, occurs_in}
use Rattle.order_search.proofs.Constraints.{truth_falls, truth_last, uses_all, uses_symbols, last_number}
use Rattle.order_search.proofs.LastPlaces.{end_within, end_of_all, reach_of_owners}
use Rattle.poly_find.specs.LinearTest.{linear_weak, linear_strict}
use Rattle.poly_find.specs.PolySpace.{poly_family}
use Rattle.poly_find.specs.PolyRow.{poly_entry, poly_search}
use Rattle.poly_find.specs.PolyPlaces.{owner_of, parts_by, owners_of, starts}
use Rattle.poly_find.proofs.SlotEnds.{end_of_owners}
use Rattle.poly_find.proofs.PolyEntries.{weak_by_entries, some_by_entries}

owner_at : (slots : List Slot) (s d : ℕ) → s < length slots → get_or (map owner_of slots) s d ≡ owner_of (get_or slots s (slot 0 0))
owner_at [] s d h = absurd (omega (arith, h))
owner_at (x ∷ slots) zero d h = refl
owner_at (x ∷ slots) (suc s) d h = owner_at slots s d (omega (arith, h))

module _ (arities symbols : List ℕ) (rules pairs : List RewriteRule) where
  pub slot_count : (owners : List ℕ) → owners ≡ owners_of arities symbols → length owners ≡ (puzzle_of (poly_search arities symbols rules pairs)).slots
  slot_count owners are = ap length are ∙ length-map (slots_of (parts_by arities) symbols) owner_of

  pub uses_rule : (owners : List ℕ) (c s d : ℕ) (r : RewriteRule) → owners ≡ owners_of arities symbols → slice_get (rules ++ pairs) c ≡ Some r
      → s < (puzzle_of (poly_search arities symbols rules pairs)).slots
      → (puzzle_of (poly_search arities symbols rules pairs)).uses c s ≡ (occurs_in (get_or owners s d) r.left || occurs_in (get_or owners s d) r.right)
  uses_rule owners c s d r are e h =
      let here = get_or (slots_of (parts_by arities) symbols) s (slot 0 0) in
      uses_symbols (poly_family (arity_with_mark arities)) symbols rules pairs c s r here.symbol here.part e h refl
      ∙ ap (λ (f : ℕ). occurs_in f r.left || occurs_in f r.right) (sym (ap (λ (l : List ℕ). get_or l s d) are ∙ owner_at (slots_of (parts_by arities) symbols) s d h))

  pub uses_last : (c s : ℕ) → slice_get (rules ++ pairs) c ≡ None → c < (puzzle_of (poly_search arities symbols rules pairs)).constraints
      → s < (puzzle_of (poly_search arities symbols rules pairs)).slots → (puzzle_of (poly_search arities symbols rules pairs)).uses c s ≡ true
  uses_last c s e below h =
      uses_all (poly_family (arity_with_mark arities)) symbols rules pairs c s (last_number (poly_family (arity_with_mark arities)) symbols rules pairs c e below) h

  pub reach_of_rule : (owners : List ℕ) (c : ℕ) (r : RewriteRule) → owners ≡ owners_of arities symbols → slice_get (rules ++ pairs) c ≡ Some r
      → reach (puzzle_of (poly_search arities symbols rules pairs)) c ≡ starts (parts_by arities) symbols (end_among (λ f. occurs_in f r.left || occurs_in f r.right) symbols)
  reach_of_rule owners c r are at =
      let test : ℕ → Bool = λ f. occurs_in f r.left || occurs_in f r.right in
      let many = slot_count owners are in
      reach_of_owners (puzzle_of (poly_search arities symbols rules pairs)) c test owners (sym many) (λ s below. uses_rule owners c s 0 r are at (omega (arith, many, below)))
      ∙ (ap (end_among test) are ∙ end_of_owners (parts_by arities) (λ f. omega arith) test symbols)

  pub reach_of_last : (owners : List ℕ) (c : ℕ) → owners ≡ owners_of arities symbols → slice_get (rules ++ pairs) c ≡ None
      → c < (puzzle_of (poly_search arities symbols rules pairs)).constraints → reach (puzzle_of (poly_search arities symbols rules pairs)) c ≡ (puzzle_of (poly_search arities symbols rules pairs)).slots
  reach_of_last owners c are none below =
      let many = slot_count owners are in
      reach_of_owners (puzzle_of (poly_search arities symbols rules pairs)) c (λ f. true) owners (sym many) (λ s l. uses_last c s none below (omega (arith, many, l)))
      ∙ (end_of_all owners ∙ many)

  -- the slots of the first symbols, up to the last that stands in the rule, are some of all
  pub few_of_rule : (owners : List ℕ) (e n : ℕ) (test : ℕ → Bool) → owners ≡ owners_of arities symbols → e ≡ end_among test symbols → length owners < n
      → starts (parts_by arities) symbols e < n
  few_of_rule owners e n test are is few =
      let same = ap (starts (parts_by arities) symbols) is ∙ (sym (end_of_owners (parts_by arities) (λ f. omega arith) test symbols) ∙ ap (end_among test) (sym are)) in
      let within = end_within test owners in
      omega (arith, same, within, few)

  -- what the interpretation of the values says is what the values say
  module _ (no_pairing : is_listed 8191 symbols ≡ false) (covered : AreCovered symbols (rules ++ pairs)) (values : List ℕ) (entries : List (ℕ × List ℕ))
      (are : entries ≡ map (poly_entry arities (table_of (slots_of (parts_by arities) symbols) values)) symbols) where
    pub truth_of_rule : (c : ℕ) (r : RewriteRule) (b : Bool) → slice_get (rules ++ pairs) c ≡ Some r → b ≡ linear_weak (coefficient_in entries) r.left r.right
        → b ≡ (puzzle_of (poly_search arities symbols rules pairs)).truth c values
    truth_of_rule c r b at e =
        e ∙ (weak_by_entries arities (table_of (slots_of (parts_by arities) symbols) values) symbols no_pairing entries are r (covered r (in_of_get (rules ++ pairs) c r at))
        ∙ sym (truth_falls (poly_family (arity_with_mark arities)) symbols rules pairs c values r at))

    pub truth_of_last : (c : ℕ) (b : Bool) → c ≡ length rules + length pairs → b ≡ some_falls (linear_strict (coefficient_in entries)) pairs
        → b ≡ (puzzle_of (poly_search arities symbols rules pairs)).truth c values
    truth_of_last c b last e =
        e ∙ (some_by_entries arities (table_of (slots_of (parts_by arities) symbols) values) symbols no_pairing entries are pairs (λ r i. covered r (in_right rules i))
        ∙ sym (truth_last (poly_family (arity_with_mark arities)) symbols rules pairs c values last))
