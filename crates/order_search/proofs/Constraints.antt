-- Constraints of a search for an order with none of the family's own, by their numbers.
use Rattle.std.specs.Prelude.{ℕ, ◌+◌, ◌<◌, ◌≤◌, Bool, true, false, ◌&&◌, ◌||◌, nat_lt, List, [], ◌∷◌, ◌++◌, length, get_or, Some, None, slice_get, ◌≡◌}
use Rattle.std.proofs.Common.{zero, suc, refl, ap, arith, ◌∙◌}
use Rattle.std.proofs.lemmas.List.{length-append}
use Rattle.trs_defs.specs.System.{RewriteRule}
use Rattle.order_search.specs.Slots.{slot, table_of, puzzle_of}
use Rattle.order_search.proofs.Lawful.{and_true}
use Rattle.order_search.proofs.Tests.{is_lt}
use Rattle.order_search.proofs.SlotConstraints.{at_item, at_last, one_more}
use Rattle.order_search.specs.OrderSpace.{OrderFamily, falls, some_strict, some_falls, meets, concerns, occurs_in, falling, order_search, slots_of}

pub and_second : (a b : Bool) → a ≡ true → (a && b) ≡ b
and_second true b e = refl
and_second false b e = absurd cc

pub past_end : {A : Type 0} (xs : List A) (c : ℕ) → slice_get xs c ≡ None → length xs ≤ c
past_end [] c e = omega arith
past_end (x ∷ xs) zero e = absurd cc
past_end (x ∷ xs) (suc c) e = let rest = past_end xs c e in omega (arith, rest)

module _ (family : OrderFamily) (symbols : List ℕ) (rules pairs : List RewriteRule) where
  pub many_constraints : length rules + length pairs + 1 ≡ (puzzle_of (order_search family symbols [] rules pairs)).constraints
  many_constraints =
      let more = one_more falls (falling rules pairs) (some_strict pairs) in
      let both = length-append rules pairs in
      omega (arith, more, both)

  pub last_number : (c : ℕ) → slice_get (rules ++ pairs) c ≡ None → c < (puzzle_of (order_search family symbols [] rules pairs)).constraints → c ≡ length rules + length pairs
  last_number c e below =
      let past = past_end (rules ++ pairs) c e in
      let both = length-append rules pairs in
      let many = many_constraints in
      omega (arith, past, both, many, below)

  slot_there : (s : ℕ) → s < length (slots_of family.parts symbols) → nat_lt s (length (slots_of family.parts symbols)) ≡ true
  slot_there s h = is_lt s (length (slots_of family.parts symbols)) h

  pub uses_all : (c s : ℕ) → c ≡ length rules + length pairs → s < length (slots_of family.parts symbols)
      → (puzzle_of (order_search family symbols [] rules pairs)).uses c s ≡ true
  uses_all c s e h =
      let both = length-append rules pairs in
      and_true _ _ (slot_there s h)
      (at_last (λ d. concerns d (get_or (slots_of family.parts symbols) s (slot 0 0))) falls (falling rules pairs) (some_strict pairs) c (omega (arith, e, both)))

  pub uses_symbols : (c s : ℕ) (r : RewriteRule) (f part : ℕ) → slice_get (rules ++ pairs) c ≡ Some r → s < length (slots_of family.parts symbols)
      → get_or (slots_of family.parts symbols) s (slot 0 0) ≡ slot f part
      → (puzzle_of (order_search family symbols [] rules pairs)).uses c s ≡ (occurs_in f r.left || occurs_in f r.right)
  uses_symbols c s r f part e h at =
      and_second _ _ (slot_there s h)
      ∙ (at_item (λ d. concerns d (get_or (slots_of family.parts symbols) s (slot 0 0))) falls (falling rules pairs) (some_strict pairs ∷ []) c r e
      ∙ ap (concerns (falls r)) at)

  pub truth_last : (c : ℕ) (values : List ℕ) → c ≡ length rules + length pairs
      → (puzzle_of (order_search family symbols [] rules pairs)).truth c values ≡ some_falls (family.strict (table_of (slots_of family.parts symbols) values)) pairs
  truth_last c values e =
      let both = length-append rules pairs in
      at_last (λ d. meets family d (table_of (slots_of family.parts symbols) values)) falls (falling rules pairs) (some_strict pairs) c (omega (arith, e, both))

  pub truth_falls : (c : ℕ) (values : List ℕ) (r : RewriteRule) → slice_get (rules ++ pairs) c ≡ Some r
      → (puzzle_of (order_search family symbols [] rules pairs)).truth c values ≡ family.weak (table_of (slots_of family.parts symbols) values) r.left r.right
  truth_falls c values r e = at_item (λ d. meets family d (table_of (slots_of family.parts symbols) values)) falls (falling rules pairs) (some_strict pairs ∷ []) c r e
