-- The path order with filters that keep all places: strict is closed under contexts, and well-founded with strict moves
-- anywhere; a system whose rules go down terminates.
use Rattle.std.proofs.Common.{◌≡◌, ℕ, sym, ◌∙◌, inl, inr, List}
use Rattle.trs_defs.specs.Tree.{Tree, Trees}
use Rattle.trs_defs.specs.WellFormed.{IsWellFormed, AreWellFormed}
use Rattle.trs_defs.specs.Step.{Inside, InsideOne, here, deep, first, later, Step}
use Rattle.trs_defs.specs.System.{RewriteRule, Among}
use Rattle.trs_defs.specs.Member.{In}
use Rattle.trs_defs.specs.Bounded.{IsBounded}
use Rattle.trs_defs.specs.Claims.{IsTerminating}
use Rattle.pair_theory.specs.Moves.{IsOrdered}
use Rattle.pair_theory.proofs.Reducts.{bounded}
use Rattle.order_theory.specs.PathOrder.{PathGreater}
use Rattle.order_theory.specs.ArgumentFilter.{ArgumentFilter, PathStrict, PathWeak}
use Rattle.order_theory.specs.Keeping.{KeepsAllPlaces}
use Rattle.order_theory.specs.MovesInContexts.{IsWellFoundedInContexts}
use Rattle.order_theory.proofs.PathLaws.{greater_context, falling_terminates, greater_vars}
use Rattle.order_theory.proofs.Fallers.{falling, each_of_system, contexts_bounded}
use Rattle.order_theory.proofs.KeptWhole.{filtered_whole, greater_of_strict, strict_of_greater}

-- rules that go down have a bound for each term
falling_bounded : (rank : ℕ → ℕ) (rules : List RewriteRule) → ((p : RewriteRule) → In p rules → PathGreater rank p.left p.right)
    → (t : Tree) → IsBounded (Step rules) t
falling_bounded rank rules falls t =
    bounded rules (λ p i. greater_vars rank (falls p i)) (falling_terminates rank (Among rules) (λ l r i. falls _ i) t)

module _ (arities : List ℕ) (rank : ℕ → ℕ) (filter : ℕ → ArgumentFilter) (keeps : KeepsAllPlaces arities filter) where
  mutual
    plain_inside : {s t : Tree} → Inside (PathStrict rank filter) s t → IsWellFormed arities s → IsWellFormed arities t → Inside (PathGreater rank) s t
    plain_inside (here {s = s} {t = t} g) w w' = here (greater_of_strict arities filter keeps rank s t w w' g)
    plain_inside (deep d) w w' = deep (plain_inside_one d w.1 w'.1)

    plain_inside_one : {ss ts : Trees} → InsideOne (PathStrict rank filter) ss ts → AreWellFormed arities ss → AreWellFormed arities ts
        → InsideOne (PathGreater rank) ss ts
    plain_inside_one (first d) w w' = first (plain_inside d w.0 w'.0)
    plain_inside_one (later d) w w' = later (plain_inside_one d w.1 w'.1)

  pub strict_context : (s t : Tree) → IsWellFormed arities s → IsWellFormed arities t → Inside (PathStrict rank filter) s t → PathStrict rank filter s t
  strict_context s t w w' d = strict_of_greater arities filter keeps rank s t w w' (greater_context rank (plain_inside d w w'))

  strict_pair : (p : RewriteRule) → IsOrdered (IsWellFormed arities) (PathStrict rank filter) p → PathGreater rank p.left p.right
  strict_pair p o = greater_of_strict arities filter keeps rank p.left p.right o.left_spoken o.right_spoken o.ordered

  weak_pair : (p : RewriteRule) → IsOrdered (IsWellFormed arities) (PathWeak rank filter) p → ((p.left ≡ p.right) → ⊥) → PathGreater rank p.left p.right
  weak_pair p o differ = elim o.ordered as (λ _. PathGreater rank p.left p.right) [
    | inl e ↦ absurd (differ (sym (filtered_whole arities filter keeps p.left o.left_spoken) ∙ (e ∙ filtered_whole arities filter keeps p.right o.right_spoken)))
    | inr g ↦ greater_of_strict arities filter keeps rank p.left p.right o.left_spoken o.right_spoken g
  ]

  pub well_founded_in_contexts : IsWellFoundedInContexts (PathWeak rank filter) (PathStrict rank filter) (IsWellFormed arities)
  well_founded_in_contexts weaks stricts weak strict t spoken =
      let falls : (p : RewriteRule) → In p (falling weaks stricts) → PathGreater rank p.left p.right =
      each_of_system (λ x. x) weaks stricts (λ p. PathGreater rank p.left p.right)
      (λ p i. strict_pair p (strict p i)) (λ p i differ. weak_pair p (weak p i) differ) in
      contexts_bounded weaks stricts t (falling_bounded rank (falling weaks stricts) falls t)

  pub oriented_terminates : (rules : List RewriteRule)
      → ((p : RewriteRule) → In p rules → IsWellFormed arities p.left × IsWellFormed arities p.right × PathStrict rank filter p.left p.right)
      → IsTerminating (record { arities = arities; rules = rules })
  oriented_terminates rules oriented t well =
      falling_bounded rank rules (λ p i. let o = oriented p i in greater_of_strict arities filter keeps rank p.left p.right o.0 o.1 o.2) t
