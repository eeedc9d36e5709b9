-- The places that the strategy subterm finds are those of a well-made step.
use Rattle.std.specs.Prelude.{◌≡◌, ◌<◌, ◌≤◌, ℕ, ◌+◌, List, [], ◌∷◌, map, length, get_or, Option, Some, None, slice_get, unwrap_or}
use Rattle.std.specs.List.{AllByRecursion}
use Rattle.std.proofs.Common.{suc, refl, sym, ap, subst, arith, ◌∙◌}
use Rattle.trs_defs.specs.System.{System}
use Rattle.order_find.specs.order_search.Slots.{puzzle_of}
use Rattle.order_find.proofs.order_search.Solutions.{solved}
use Rattle.order_find.specs.SubtermSpace.{arity_in, subterm_search}
use Rattle.order_find.specs.SubtermRow.{places_of, FindsSubterm}
use Rattle.order_find.proofs.SubtermPuzzle.{many_slots, slot_domain}
use Rattle.cert_step.specs.dp_core.Projection.{IsProjection}
use Rattle.cert_step.specs.Entries.{AreDistinct, AreProjections}
use Rattle.strategies.proofs.Distinctness.{increasing_distinct}

place_within : (o : Option ℕ) (v : ℕ) → v < unwrap_or o 0 → (n : ℕ) × (o ≡ Some n) × (1 ≤ v + 1) × (v + 1 ≤ n)
place_within None v below = absurd (omega (arith, below))
place_within (Some n) v below = (n, refl, omega arith, omega (arith, below))

each_place : (arities roots values : List ℕ) → ((i : ℕ) → i < length roots → i < length values → get_or values i 0 < arity_in arities (get_or roots i 0))
    → AllByRecursion (IsProjection arities) (places_of roots values)
each_place arities [] values small = tt
each_place arities (f ∷ roots) [] small = tt
each_place arities (f ∷ roots) (v ∷ values) small = (
  place_within (slice_get arities f) v (small 0 (omega arith) (omega arith)),
  each_place arities roots values (λ i a b. small (suc i) (omega (arith, a)) (omega (arith, b))),
)

names : (roots values : List ℕ) → length values ≡ length roots → map (λ (e : ℕ × ℕ). e.0) (places_of roots values) ≡ roots
names [] values e = refl
names (f ∷ roots) [] e = absurd (omega (arith, e))
names (f ∷ roots) (v ∷ values) e = ap (λ (l : List ℕ). f ∷ l) (names roots values (omega (arith, e)))

pub places_made : (system : System) (numbers : List ℕ) (budget : ℕ) (projection : List (ℕ × ℕ)) → FindsSubterm system numbers budget projection
    → AreProjections system.arities projection
places_made system numbers budget projection h =
    let roots = h.roots in
    let values = h.found.values in
    let s = solved (puzzle_of (subterm_search system.arities roots h.pairs)) values h.found.first.0 in
    let full : length values ≡ length roots = s.full ∙ sym (many_slots system.arities roots h.pairs) in
    subst (AreProjections system.arities) (sym h.found.are) (record {
      each = each_place system.arities roots values (λ i a b.
          (let inside = s.inside i 0 b in
          let domain = slot_domain system.arities roots h.pairs i 0 a in
          omega (arith, inside, domain)));
      distinct = subst AreDistinct (sym (names roots values full)) (increasing_distinct roots h.of_problem.are_roots.increasing);
    })
