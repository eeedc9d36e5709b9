-- A search for an order is lawful where the comparisons of its family depend only on the symbols of the terms.
use Rattle.std.specs.Prelude.{ℕ, true, ◌||◌, ◌==◌, not, nat_lt, List, [], ◌∷◌, ◌≡◌}
use Rattle.std.proofs.Common.{refl, ap, ap₂}
use Rattle.trs_defs.specs.System.{RewriteRule}
use Rattle.assign_search.specs.Puzzle.{IsLawful}
use Rattle.assign_search.proofs.Refuting.{or_left, or_right}
use Rattle.order_search.specs.Slots.{slot, Table, puzzle_of}
use Rattle.order_search.specs.OrderSpace.{OrderFamily, OrderConstraint, falls, some_strict, above, some_falls, meets, concerns, order_search, DependsOnSymbols}
use Rattle.order_search.proofs.Lawful.{lawful_of}
use Rattle.order_search.proofs.Tests.{self_test}

module _ (family : OrderFamily) (depends : DependsOnSymbols family) where
  same_some : (rules : List RewriteRule) (t u : Table) → ((f part : ℕ) → t f part ≡ u f part) → some_falls (family.strict t) rules ≡ some_falls (family.strict u) rules
  same_some [] t u same = refl
  same_some (r ∷ rules) t u same = ap₂ (λ a b. a || b) (depends.strict r.left r.right t u (λ f part _. same f part)) (same_some rules t u same)

  same_met : (d : OrderConstraint) (t u : Table) → ((f part : ℕ) → concerns d (slot f part) ≡ true → t f part ≡ u f part) → meets family d t ≡ meets family d u
  same_met (falls r) t u same = depends.weak r.left r.right t u same
  same_met (some_strict pairs) t u same = same_some pairs t u (λ f part. same f part refl)
  same_met (above unary other) t u same =
      let own : (part : ℕ) → t unary part ≡ u unary part = λ part. same unary part (or_left (unary == unary) (unary == other) (self_test unary)) in
      let others : (part : ℕ) → t other part ≡ u other part = λ part. same other part (or_right (other == unary) (other == other) (self_test other)) in
      ap₂ (λ a b. a || b) (ap (λ (w : ℕ). not (w == 0)) (own 0)) (ap₂ (λ (a b : ℕ). nat_lt a b) (others 1) (own 1))

  pub order_lawful : (symbols : List ℕ) (own : List OrderConstraint) (rules pairs : List RewriteRule)
      → IsLawful (puzzle_of (order_search family symbols own rules pairs))
  order_lawful symbols own rules pairs = lawful_of (order_search family symbols own rules pairs) (record { each = same_met })
