-- The values of a solution are places of arguments.
use Rattle.std.specs.Prelude.{ℕ, ◌<◌, List, length, get_or, Option, Some, None, slice_get, unwrap_or, All, ◌≡◌}
use Rattle.std.proofs.Common.{refl, sym, arith, ◌∙◌}
use Rattle.pair_theory.specs.DependencyPair.{DependencyPair}
use Rattle.assign_search.specs.Puzzle.{solution_of}
use Rattle.order_search.specs.Slots.{puzzle_of}
use Rattle.order_search.proofs.Solutions.{solved}
use Rattle.order_find.specs.SubtermSpace.{subterm_search}
use Rattle.order_find.proofs.SubtermPuzzle.{many_slots, slot_domain}

small_or : (o : Option ℕ) → ((n : ℕ) → o ≡ Some n → n < 256) → unwrap_or o 0 < 256
small_or None h = omega arith
small_or (Some n) h = h n refl

module _ (arities roots values : List ℕ) (pairs : List DependencyPair) (first : solution_of (puzzle_of (subterm_search arities roots pairs)) ≡ Some values) where
  pub as_many_values : length values ≡ length roots
  as_many_values = (solved _ values first).full ∙ sym (many_slots arities roots pairs)

  pub small_values : ((f n : ℕ) → slice_get arities f ≡ Some n → n < 256) → All (λ v. v < 255) values
  small_values bytes k d below =
      let s = solved _ values first in
      let e = as_many_values in
      let inside = s.inside k d below in
      let domain = slot_domain arities roots pairs k 0 (omega (arith, below, e)) in
      let small = small_or (slice_get arities (get_or roots k 0)) (bytes (get_or roots k 0)) in
      omega (arith, inside, domain, small)
