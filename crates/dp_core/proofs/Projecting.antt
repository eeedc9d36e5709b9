-- The argument to which a side is projected, and what it says of a pair.
use Rattle.std.specs.Prelude.{◌≡◌, ℕ, ◌-◌, true, false, List, Option, Some, None, Ok, Err, slice_get}
use Rattle.std.specs.Option.{option_and_then, option_map, option_copied}
use Rattle.std.proofs.Common.{Bor, sym, ap, subst, ◌∙◌}
use Rattle.std.proofs.lemmas.Option.{same_Some, none-some}
use Rattle.trs_defs.specs.Tree.{Tree, Trees, app}
use Rattle.trs_defs.specs.Position.{argument_at}
use Rattle.trs_core.specs.declared.terms.Term.{Term}
use Rattle.trs_core.specs.View.{tree, forest}
use Rattle.trs_core.proofs.Lookups.{argument_at_past}
use Rattle.pair_theory.specs.Marked.{Marked, marked}
use Rattle.pair_theory.specs.Subterm.{Sub, itself, ProperSubterm}
use Rattle.pair_theory.specs.DependencyPair.{DependencyPair}
use Rattle.rewrite_core.specs.declared.checks.refusals.StepRefused.TheVariants.{PairNotWeak}
use Rattle.rewrite_core.specs.Check.{stops, goes_on, lacks, holds, yes_it_does, no_it_does_not}
use Rattle.dp_core.specs.SubtermConditions.{place_for, projected, ProjectedAre, projects_within}
use Rattle.dp_core.proofs.Subterms.{not_proper, sub_of_proper}

pub projected_to : (projection : List (ℕ × ℕ)) (m : Marked) (f : ℕ) (args : Trees) → marked f args ≡ m → (place : ℕ) (ts : List Term) (got : Option (Bor Term))
    → place_for projection f ≡ Some place → forest ts ≡ args → (place ≡ 0 → ⊥) → option_copied got ≡ slice_get ts (place - 1)
    → option_map tree (option_copied got) ≡ projected projection m
projected_to projection m f args is place ts got listed same positive found =
    subst (λ z. option_map tree (option_copied got) ≡ projected projection z) is
    (ap (λ o. option_map tree o) found
    ∙ (sym (argument_at_past f ts args place same positive)
    ∙ ap (λ o. option_and_then (argument_at (app f args)) o) (sym listed)))

module _ (projection : List (ℕ × ℕ)) (n : ℕ) (from to : Marked) (p : DependencyPair) (is : record { from = from; to = to } ≡ p) where
  pub no_left : projected projection from ≡ None → projects_within projection n p (Err (PairNotWeak n))
  no_left e = subst (λ q. projects_within projection n q (Err (PairNotWeak n))) is
      (stops _ (lacks (λ h. none-some h.left (sym e ∙ h.left_there))))

  pub no_right : projected projection to ≡ None → projects_within projection n p (Err (PairNotWeak n))
  no_right e = subst (λ q. projects_within projection n q (Err (PairNotWeak n))) is
      (stops _ (lacks (λ h. none-some h.right (sym e ∙ h.right_there))))

  module _ (l r : Tree) (left : projected projection from ≡ Some l) (right : projected projection to ≡ Some r) where
    -- what is related
    related_sides : (related : Tree → Tree → Type 0) → ProjectedAre projection related (record { from = from; to = to }) → related l r
    related_sides related h =
        subst (λ z. related l z) (same_Some h.right r (sym h.right_there ∙ right))
        (subst (λ z. related z h.right) (same_Some h.left l (sym h.left_there ∙ left)) h.relation)

    pub equal_sides : l ≡ r → projects_within projection n p (Ok false)
    equal_sides same = subst (λ q. projects_within projection n q (Ok false)) is
        (goes_on tt _ (holds (record { left = l; right = r; left_there = left; right_there = right; relation = subst (λ z. Sub z l) same itself }))
        (no_it_does_not (λ h. not_proper l r same (related_sides ProperSubterm h))))

    pub proper_sides : ProperSubterm l r → projects_within projection n p (Ok true)
    proper_sides within = subst (λ q. projects_within projection n q (Ok true)) is
        (goes_on tt _ (holds (record { left = l; right = r; left_there = left; right_there = right; relation = sub_of_proper l r within }))
        (yes_it_does (record { left = l; right = r; left_there = left; right_there = right; relation = within })))

    pub not_within : (Sub r l → ⊥) → projects_within projection n p (Err (PairNotWeak n))
    not_within none = subst (λ q. projects_within projection n q (Err (PairNotWeak n))) is
        (stops _ (lacks (λ h. none (related_sides (λ s t. Sub t s) h))))
