-- Constraints of a search for an order by their numbers: the family's own come first, and behind them those of a search without.
use Rattle.std.specs.Prelude.{ℕ, ◌+◌, ◌<◌, Bool, List, [], ◌∷◌, ◌++◌, length, map, get_or, Some, slice_get, ◌≡◌}
use Rattle.std.proofs.Common.{zero, suc, sym, ap, arith, ◌∙◌}
use Rattle.std.proofs.lemmas.List.{length-append}
use Rattle.trs_defs.specs.System.{RewriteRule}
use Rattle.order_search.specs.Slots.{slot, at_constraint, table_of, puzzle_of}
use Rattle.order_search.proofs.Tests.{is_lt}
use Rattle.order_search.specs.OrderSpace.{OrderFamily, OrderConstraint, falls, some_strict, meets, concerns, falling, order_search, slots_of}
use Rattle.order_search.proofs.Constraints.{and_second}

at_own : {C : Type 0} (test : C → Bool) (own ds es : List C) (c : ℕ) (d : C) → slice_get own c ≡ Some d → at_constraint test (own ++ ds ++ es) c ≡ test d
at_own test [] ds es c d e = absurd cc
at_own test (x ∷ own) ds es zero d e = let same : x ≡ d = cc in ap test same
at_own test (x ∷ own) ds es (suc c) d e = at_own test own ds es c d e

at_behind : {C : Type 0} (test : C → Bool) (own ds es : List C) (c k : ℕ) → c ≡ length own + k → at_constraint test (own ++ ds ++ es) c ≡ at_constraint test (ds ++ es) k
at_behind test [] ds es c k e = let same : c ≡ k = omega (arith, e) in ap (λ (n : ℕ). at_constraint test (ds ++ es) n) same
at_behind test (x ∷ own) ds es zero k e = absurd (omega (arith, e))
at_behind test (x ∷ own) ds es (suc c) k e = at_behind test own ds es c k (omega (arith, e))

module _ (family : OrderFamily) (symbols : List ℕ) (own : List OrderConstraint) (rules pairs : List RewriteRule) where
  abbrev each : List OrderConstraint
  each = map falls (falling rules pairs)

  abbrev last : List OrderConstraint
  last = some_strict pairs ∷ []

  pub own_and_others : (puzzle_of (order_search family symbols own rules pairs)).constraints
      ≡ length own + (puzzle_of (order_search family symbols [] rules pairs)).constraints
  own_and_others =
      let a = length-append (own ++ each) last in
      let b = length-append own each in
      let c = length-append each last in
      omega (arith, a, b, c)

  pub uses_own : (c s : ℕ) (d : OrderConstraint) → slice_get own c ≡ Some d → s < length (slots_of family.parts symbols)
      → (puzzle_of (order_search family symbols own rules pairs)).uses c s ≡ concerns d (get_or (slots_of family.parts symbols) s (slot 0 0))
  uses_own c s d e h =
      and_second _ _ (is_lt s (length (slots_of family.parts symbols)) h)
      ∙ at_own (λ d. concerns d (get_or (slots_of family.parts symbols) s (slot 0 0))) own each last c d e

  pub uses_behind : (c k s : ℕ) → c ≡ length own + k → s < length (slots_of family.parts symbols)
      → (puzzle_of (order_search family symbols own rules pairs)).uses c s ≡ (puzzle_of (order_search family symbols [] rules pairs)).uses k s
  uses_behind c k s e h =
      let there = is_lt s (length (slots_of family.parts symbols)) h in
      and_second _ _ there
      ∙ (at_behind (λ d. concerns d (get_or (slots_of family.parts symbols) s (slot 0 0))) own each last c k e ∙ sym (and_second _ _ there))

  pub truth_own : (c : ℕ) (values : List ℕ) (d : OrderConstraint) → slice_get own c ≡ Some d
      → (puzzle_of (order_search family symbols own rules pairs)).truth c values ≡ meets family d (table_of (slots_of family.parts symbols) values)
  truth_own c values d e = at_own (λ d. meets family d (table_of (slots_of family.parts symbols) values)) own each last c d e

  pub truth_behind : (c k : ℕ) (values : List ℕ) → c ≡ length own + k
      → (puzzle_of (order_search family symbols own rules pairs)).truth c values ≡ (puzzle_of (order_search family symbols [] rules pairs)).truth k values
  truth_behind c k values e = at_behind (λ d. meets family d (table_of (slots_of family.parts symbols) values)) own each last c k e
