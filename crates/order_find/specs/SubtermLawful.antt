-- Whether the places of a projection meet a constraint depends only on the slots that it is about.
use Rattle.std.specs.Prelude.{ℕ, ◌+◌, Bool, true, ◌||◌, ◌==◌, List, [], ◌∷◌, ◌≡◌}
use Rattle.std.proofs.Common.{refl, ap₂}
use Rattle.trs_defs.specs.Tree.{Tree}
use Rattle.trs_defs.specs.Position.{argument_at}
use Rattle.pair_theory.specs.Marked.{plain}
use Rattle.pair_theory.specs.DependencyPair.{DependencyPair}
use Rattle.assign_search.specs.Puzzle.{IsLawful}
use Rattle.assign_search.proofs.Refuting.{or_left, or_right}
use Rattle.order_search.specs.Slots.{slot, Table, puzzle_of}
use Rattle.order_search.proofs.Lawful.{lawful_of}
use Rattle.order_search.proofs.Tests.{self_test}
use Rattle.order_find.specs.Subterms.{has_subterm, has_proper_subterm}
use Rattle.order_find.specs.SubtermSpace.{SubtermConstraint, weak, some_strict, both_pass, passes, some_passes, subterm_met, subterm_about, subterm_search}

same_passes : (test : Tree → Tree → Bool) (p : DependencyPair) (t u : Table) → t p.from.symbol 0 ≡ u p.from.symbol 0 → t p.to.symbol 0 ≡ u p.to.symbol 0
    → passes test t p ≡ passes test u p
same_passes test p t u a b = ap₂ (λ x y. both_pass test (argument_at (plain p.from) (x + 1)) (argument_at (plain p.to) (y + 1))) a b

same_some : (pairs : List DependencyPair) (t u : Table) → ((f part : ℕ) → t f part ≡ u f part) → some_passes t pairs ≡ some_passes u pairs
same_some [] t u same = refl
same_some (p ∷ pairs) t u same =
    ap₂ (λ a b. a || b) (same_passes has_proper_subterm p t u (same p.from.symbol 0) (same p.to.symbol 0)) (same_some pairs t u same)

same_met : (d : SubtermConstraint) (t u : Table) → ((f part : ℕ) → subterm_about d (slot f part) ≡ true → t f part ≡ u f part) → subterm_met d t ≡ subterm_met d u
same_met (weak p) t u same =
    same_passes has_subterm p t u (same p.from.symbol 0 (or_left (p.from.symbol == p.from.symbol) _ (self_test p.from.symbol)))
    (same p.to.symbol 0 (or_right (p.from.symbol == p.to.symbol) _ (self_test p.to.symbol)))
same_met (some_strict pairs) t u same = same_some pairs t u (λ f part. same f part refl)

pub subterm_lawful : (arities roots : List ℕ) (pairs : List DependencyPair) → IsLawful (puzzle_of (subterm_search arities roots pairs))
subterm_lawful arities roots pairs = lawful_of (subterm_search arities roots pairs) (record { each = same_met })
