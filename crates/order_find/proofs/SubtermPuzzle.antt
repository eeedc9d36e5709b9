-- The search for places by the numbers of its slots and constraints.
use Rattle.std.specs.Prelude.{ℕ, ◌+◌, ◌<◌, Bool, true, false, ◌&&◌, ◌||◌, ◌==◌, nat_lt, if◌then◌else◌, List, [], ◌∷◌, length, get_or, Option, Some, None, option_map, slice_get, ◌≡◌}
use Rattle.std.proofs.Common.{zero, suc, refl, sym, ap, arith, ◌∙◌}
use Rattle.std.proofs.lemmas.List.{length-map}
use Rattle.pair_theory.specs.DependencyPair.{DependencyPair}
use Rattle.assign_search.specs.Rest.{reach}
use Rattle.kbo_find.specs.pair_order.Entries.{place_among}
use Rattle.order_search.specs.Ends.{end_among}
use Rattle.order_search.specs.Slots.{Slot, slot, table_from, table_of, puzzle_of}
use Rattle.order_search.proofs.Lawful.{and_true}
use Rattle.order_search.proofs.Tests.{is_lt}
use Rattle.order_search.proofs.LastPlaces.{end_of_all, reach_of_owners}
use Rattle.order_search.proofs.Constraints.{and_second}
use Rattle.order_search.proofs.SlotConstraints.{at_item, at_last, one_more}
use Rattle.order_find.specs.Subterms.{has_subterm}
use Rattle.order_find.specs.SubtermSpace.{weak, some_strict, passes, some_passes, subterm_met, subterm_about, subterm_slots, arity_in, subterm_search}

slot_at : (roots : List ℕ) (s d : ℕ) → s < length roots → get_or (subterm_slots roots) s (slot 0 0) ≡ slot (get_or roots s d) 0
slot_at [] s d h = absurd (omega (arith, h))
slot_at (f ∷ roots) zero d h = refl
slot_at (f ∷ roots) (suc s) d h = slot_at roots s d (omega (arith, h))

module _ (arities roots : List ℕ) (pairs : List DependencyPair) where
  pub many_slots : length roots ≡ (puzzle_of (subterm_search arities roots pairs)).slots
  many_slots = sym (length-map roots (λ f. slot f 0))

  pub slot_domain : (s d : ℕ) → s < length roots → (puzzle_of (subterm_search arities roots pairs)).domain s ≡ arity_in arities (get_or roots s d)
  slot_domain s d h = ap (λ (x : Slot). arity_in arities x.symbol) (slot_at roots s d h)

  pub many_constraints : length pairs + 1 ≡ (puzzle_of (subterm_search arities roots pairs)).constraints
  many_constraints = sym (one_more weak pairs (some_strict pairs))

  slot_there : (s : ℕ) → s < length roots → nat_lt s (length (subterm_slots roots)) ≡ true
  slot_there s h = is_lt s (length (subterm_slots roots)) (let e = many_slots in omega (arith, h, e))

  pub uses_all : (c s : ℕ) → c ≡ length pairs → s < length roots → (puzzle_of (subterm_search arities roots pairs)).uses c s ≡ true
  uses_all c s e h = and_true _ _ (slot_there s h) (at_last (λ d. subterm_about d (get_or (subterm_slots roots) s (slot 0 0))) weak pairs (some_strict pairs) c e)

  pub uses_roots : (c s d : ℕ) (p : DependencyPair) → slice_get pairs c ≡ Some p → s < length roots
      → (puzzle_of (subterm_search arities roots pairs)).uses c s ≡ (p.from.symbol == get_or roots s d) || (p.to.symbol == get_or roots s d)
  uses_roots c s d p e h =
      and_second _ _ (slot_there s h)
      ∙ (at_item (λ k. subterm_about k (get_or (subterm_slots roots) s (slot 0 0))) weak pairs (some_strict pairs ∷ []) c p e
      ∙ ap (subterm_about (weak p)) (slot_at roots s d h))

  pub reach_pair : (c e : ℕ) (p : DependencyPair) → slice_get pairs c ≡ Some p → e ≡ end_among (λ f. p.from.symbol == f || p.to.symbol == f) roots
      → e ≡ reach (puzzle_of (subterm_search arities roots pairs)) c
  reach_pair c e p at is =
      is ∙ sym (reach_of_owners (puzzle_of (subterm_search arities roots pairs)) c (λ f. p.from.symbol == f || p.to.symbol == f) roots (sym many_slots)
      (λ s below. uses_roots c s 0 p at below))

  pub reach_last : (c : ℕ) → c ≡ length pairs → length roots ≡ reach (puzzle_of (subterm_search arities roots pairs)) c
  reach_last c last =
      sym (end_of_all roots)
      ∙ sym (reach_of_owners (puzzle_of (subterm_search arities roots pairs)) c (λ f. true) roots (sym many_slots) (λ s below. uses_all c s last below))

  pub truth_last : (c : ℕ) (values : List ℕ) → c ≡ length pairs → (puzzle_of (subterm_search arities roots pairs)).truth c values ≡ some_passes (table_of (subterm_slots roots) values) pairs
  truth_last c values e = at_last (λ d. subterm_met d (table_of (subterm_slots roots) values)) weak pairs (some_strict pairs) c e

  pub truth_pair : (c : ℕ) (values : List ℕ) (p : DependencyPair) → slice_get pairs c ≡ Some p
      → (puzzle_of (subterm_search arities roots pairs)).truth c values ≡ passes has_subterm (table_of (subterm_slots roots) values) p
  truth_pair c values p e = at_item (λ d. subterm_met d (table_of (subterm_slots roots) values)) weak pairs (some_strict pairs ∷ []) c p e

-- ---- the value of a root

abbrev value_at : List ℕ → ℕ → Option ℕ → ℕ
value_at values k None = 0
value_at values k (Some i) = get_or values (k + i) 0

at_next : (values : List ℕ) (k : ℕ) (o : Option ℕ) → value_at values (suc k) o ≡ value_at values k (option_map suc o)
at_next values k None = refl
at_next values k (Some i) = let e : suc k + i ≡ k + suc i = omega arith in ap (λ (j : ℕ). get_or values j 0) e

one_of : (b : Bool) (values : List ℕ) (k x : ℕ) (o : Option ℕ) → x ≡ value_at values k o
    → (if b && true then get_or values k 0 else x) ≡ value_at values k (if b then Some 0 else o)
one_of true values k x o e = let at : k ≡ k + 0 = omega arith in ap (λ (j : ℕ). get_or values j 0) at
one_of false values k x o e = e

value_from : (roots values : List ℕ) (k f : ℕ) → table_from k (subterm_slots roots) values f 0 ≡ value_at values k (place_among roots f)
value_from [] values k f = refl
value_from (g ∷ roots) values k f =
    one_of (g == f) values k _ _ (value_from roots values (suc k) f ∙ at_next values k (place_among roots f))

pub value_absent : (roots values : List ℕ) (f : ℕ) → place_among roots f ≡ None → 0 ≡ table_of (subterm_slots roots) values f 0
value_absent roots values f e = sym (value_from roots values 0 f ∙ ap (value_at values 0) e)

pub value_there : (roots values : List ℕ) (f i : ℕ) → place_among roots f ≡ Some i → get_or values i 0 ≡ table_of (subterm_slots roots) values f 0
value_there roots values f i e =
    let at : 0 + i ≡ i = omega arith in
    sym (value_from roots values 0 f ∙ (ap (value_at values 0) e ∙ ap (λ (j : ℕ). get_or values j 0) at))
