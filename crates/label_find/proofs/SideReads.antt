-- Sides that are read in their table.
use Rattle.std.specs.Prelude.{◌≡◌, ◌<◌, ◌≤◌, ℕ, ◌+◌, ◌^◌, Bool, max, List, All, Option, Some, IsTrue, length, slice_get}
use Rattle.std.proofs.Common.{ap, ap₂, sym, ◌∙◌, subst}
use Rattle.std.proofs.lemmas.Option.{slice_get_within, same_Some}
use Rattle.trs_defs.specs.Variable.{is_listed}
use Rattle.label_find.specs.declared.side_rules.SideRules.{SideRules}
use Rattle.label_find.specs.declared.constraint.PeakConstraint.{PeakConstraint}
use Rattle.label_find.specs.Grouping.{count_of, lists_at}
use Rattle.label_find.specs.Lists.{end_of}
use Rattle.confluence_theory.specs.RuleRanks.{rank_of}
use Rattle.label_find.specs.SideRules.{lists_of_side}
use Rattle.label_find.specs.Constraint.{some_meet}
use Rattle.label_find.specs.ConstraintPuzzle.{is_met, used_by, used_in, uses_rule, IsSmallSide}
use Rattle.label_find.proofs.RuleLists.{of_left, of_right}
use Rattle.label_find.proofs.ListEnds.{ends_fit, end_of_peak}

pub side_within : (sides : List SideRules) (number : ℕ) → IsSmallSide sides number → number < length sides
side_within sides number h = slice_get_within sides number h.side h.there

pub few_groups : (sides : List SideRules) (number : ℕ) (side : SideRules) → slice_get sides number ≡ Some side → IsSmallSide sides number → count_of side.groups ≤ 256
few_groups sides number side at h = subst (λ (s : SideRules). count_of s.groups ≤ 256) (same_Some h.side side (sym h.there ∙ at)) h.few

-- the rules that a constraint uses, by its sides
module _ (sides : List SideRules) (d : PeakConstraint) (left right : SideRules) (left_at : slice_get sides d.left ≡ Some left) (right_at : slice_get sides d.right ≡ Some right) where
  pub used_read : used_in sides d ≡ used_by (Some left) (Some right) d
  used_read = ap₂ (λ o p. used_by o p d) left_at right_at

  module _ (few : (k : ℕ) → IsTrue (uses_rule sides k d) → k + 1 < 2 ^ 32) where
    few_used : (k : ℕ) → IsTrue (is_listed k (used_by (Some left) (Some right) d)) → k + 1 < 2 ^ 32
    few_used k h = few k (ap (is_listed k) used_read ∙ h)

    pub few_left : All (λ k. k + 1 < 2 ^ 32) left.used.items
    few_left = ends_fit left.used.items (λ k h. few_used k (of_left d.inner d.outer left.used.items right.used.items k h))

    pub few_right : All (λ k. k + 1 < 2 ^ 32) right.used.items
    few_right = ends_fit right.used.items (λ k h. few_used k (of_right d.inner d.outer left.used.items right.used.items k h))

  pub end_read : (a b both with_inner end : ℕ) → a ≡ end_of left.used.items → b ≡ end_of right.used.items → both ≡ max a b → with_inner ≡ max both (d.inner + 1) → end ≡ max with_inner (d.outer + 1)
      → end ≡ end_of (used_in sides d)
  end_read a b both with_inner end a_is b_is both_is inner_is end_is =
      end_of_peak d.inner d.outer left.used.items right.used.items a b both with_inner end a_is b_is both_is inner_is end_is ∙ sym (ap end_of used_read)

  pub met_read : (ranks : List ℕ) (a b : ℕ) (ms : List (ℕ × ℕ)) (r : Bool) → a ≡ rank_of ranks d.inner → b ≡ rank_of ranks d.outer → ms ≡ d.meetings.items
      → r ≡ some_meet ranks a b (lists_at left.groups) (lists_at right.groups) ms → r ≡ is_met sides ranks d
  met_read ranks a b ms r a_is b_is ms_is is =
      let S : ℕ → ℕ → List (ℕ × ℕ) → Option SideRules → Option SideRules → Bool = λ x y zs o p. some_meet ranks x y (lists_of_side o) (lists_of_side p) zs in
      is ∙ (ap (λ x. S x b ms (Some left) (Some right)) a_is
      ∙ (ap (λ y. S (rank_of ranks d.inner) y ms (Some left) (Some right)) b_is
      ∙ (ap (λ zs. S (rank_of ranks d.inner) (rank_of ranks d.outer) zs (Some left) (Some right)) ms_is
      ∙ ap₂ (λ o p. S (rank_of ranks d.inner) (rank_of ranks d.outer) d.meetings.items o p) (sym left_at) (sym right_at))))
