-- Rules that lead from one term to another at the root.
use Rattle.std.specs.Prelude.{◌≡◌, ◌<◌, ℕ, List, [], length, take, All, Some, None, IsTrue, slice_get}
use Rattle.std.proofs.Common.{nat_eq, ap, sym, subst, ◌∙◌, arith}
use Rattle.std.proofs.lemmas.Bool.Decides.{nat_tests}
use Rattle.std.proofs.lemmas.Option.{same_Some}
use Rattle.trs_defs.specs.Tree.{Tree, Trees, var, app}
use Rattle.trs_defs.specs.Size.{within_limits}
use Rattle.trs_defs.specs.Substitution.{IsInstance, apply}
use Rattle.trs_defs.specs.System.{System, IsSystem, RewriteRule, has_root}
use Rattle.trs_defs.specs.Path.{StepsAt}
use Rattle.term_pool.specs.LeftSides.{IsGround}
use Rattle.term_pool.specs.Pooled.{AreDistinct, Extends, StandsFor, tree_at}
use Rattle.term_pool.specs.Roots.{with_root}
use Rattle.term_pool.proofs.LeftSideLaws.{ground_stays}
use Rattle.term_pool.proofs.NumberLaws.{each_number, each_before}
use Rattle.term_pool.proofs.RootRules.{root_of_instance, no_rule_at_variable}
use Rattle.term_pool.proofs.PoolTrees.{stands}
use Rattle.term_pool.proofs.Extending.{same_tree_at}
use Rattle.join_find.specs.ParallelRow.{HasNoRootStep}

pub equal_ids : (a b : ℕ) → IsTrue (nat_eq a b) → a ≡ b
equal_ids a b h = grind (arith, nat_tests)

pub ids_equal : (a b : ℕ) → a ≡ b → IsTrue (nat_eq a b)
ids_equal a b h = grind (arith, nat_tests)

-- ---- one rule

module _ (rules : List RewriteRule) (p : List ℕ) (k id reduct target : ℕ) (old new : List Tree) (at_root : p ≡ []) (extends : Extends old new) (there : target < length old) where
  pub leads_when_equal : StepsAt rules p k (tree_at old id) (tree_at new reduct) → IsTrue (nat_eq reduct target) → StepsAt rules [] k (tree_at old id) (tree_at old target)
  leads_when_equal step same =
      let e : tree_at new reduct ≡ tree_at old target = ap (tree_at new) (equal_ids reduct target same) ∙ same_tree_at old new extends target there in
      subst (λ q. StepsAt rules q k (tree_at old id) (tree_at old target)) at_root (subst (λ u. StepsAt rules p k (tree_at old id) u) e step)

  pub equal_when_leads : AreDistinct new → ((u : Tree) → StepsAt rules p k (tree_at old id) u → IsTrue (within_limits u) → StandsFor new reduct u) → IsTrue (within_limits (tree_at old target))
      → StepsAt rules [] k (tree_at old id) (tree_at old target) → IsTrue (nat_eq reduct target)
  equal_when_leads distinct only limits step =
      let placed : StepsAt rules p k (tree_at old id) (tree_at old target) = subst (λ q. StepsAt rules q k (tree_at old id) (tree_at old target)) (sym at_root) step in
      let made : StandsFor new reduct (tree_at old target) = only (tree_at old target) placed limits in
      let kept : StandsFor new target (tree_at old target) = extends.kept target (tree_at old target) (stands old target there) in
      ids_equal reduct target (distinct.same reduct target (tree_at old target) made kept)

-- ---- a rule whose sides are matched

module _ (rules : List RewriteRule) (k : ℕ) (s t : Tree) where
  pub no_rule_leads : slice_get rules k ≡ None → StepsAt rules [] k s t → ⊥
  no_rule_leads none step = let wrong : None ≡ Some step.rule = sym none ∙ step.numbered in absurd cc

  module _ (rule : RewriteRule) (numbered : slice_get rules k ≡ Some rule) where
    -- a step is from an instance of the left side to one of the right side
    pub both_instances : StepsAt rules [] k s t → IsInstance rule.left s × IsInstance rule.right t
    both_instances step =
        let same : step.rule ≡ rule = same_Some step.rule rule (sym step.numbered ∙ numbered) in
        let left : IsInstance step.rule.left s = (step.substitution, sym (same_Some s (apply step.substitution step.rule.left) step.from)) in
        let right : IsInstance step.rule.right t = (step.substitution, same_Some (apply step.substitution step.rule.right) t step.to) in
        let L : RewriteRule → Type 0 = λ r. IsInstance r.left s in
        let R : RewriteRule → Type 0 = λ r. IsInstance r.right t in
        (subst L same left, subst R same right)

    -- where the right side has no variable, such terms are one step apart
    pub ground_leads : IsGround rule.right → IsInstance rule.left s × IsInstance rule.right t → StepsAt rules [] k s t
    ground_leads ground (left, right) =
        let end : apply left.0 rule.right ≡ t = ground_stays left.0 rule.right ground ∙ (sym (ground_stays right.0 rule.right ground) ∙ right.1) in
        record { rule = rule; numbered = numbered; substitution = left.0; from = ap (λ u. Some u) (sym left.1); to = ap (λ u. Some u) end }

-- ---- rules with another root

root_instance : (rules : List RewriteRule) (j : ℕ) (t u : Tree) (step : StepsAt rules [] j t u) → IsInstance step.rule.left t
root_instance rules j t u step = (step.substitution, sym (same_Some t (apply step.substitution step.rule.left) step.from))

module _ (system : System) (valid : IsSystem system) where
  pub no_step_of_variable : (t u : Tree) (n : ℕ) → t ≡ var n → HasNoRootStep system.rules t u
  no_step_of_variable t u n is k step =
      no_rule_at_variable step.rule.left n (valid.each k step.rule step.numbered).left_no_variable (subst (IsInstance step.rule.left) is (root_instance system.rules k t u step))

  root_of_step : (t u : Tree) (f : ℕ) (ts : Trees) (k : ℕ) → t ≡ app f ts → (step : StepsAt system.rules [] k t u) → IsTrue (has_root f step.rule.left)
  root_of_step t u f ts k is step =
      root_of_instance step.rule.left t f ts (valid.each k step.rule step.numbered).left_no_variable is (root_instance system.rules k t u step)

  pub no_step_before : (t u : Tree) (f : ℕ) (ts : Trees) → t ≡ app f ts → (i k : ℕ) → slice_get (with_root f system.rules) i ≡ Some k
      → All (λ j. StepsAt system.rules [] j t u → ⊥) (take i (with_root f system.rules)) → (j : ℕ) → j < k → StepsAt system.rules [] j t u → ⊥
  no_step_before t u f ts is i k at none j low step =
      each_before (λ (r : RewriteRule). has_root f r.left) (λ j. StepsAt system.rules [] j t u → ⊥) step.rule (root_of_step t u f ts j is step) j k low 0 system.rules i at none j step.numbered (omega arith) step

  pub no_step_at_all : (t u : Tree) (f : ℕ) (ts : Trees) → t ≡ app f ts → All (λ j. StepsAt system.rules [] j t u → ⊥) (with_root f system.rules) → HasNoRootStep system.rules t u
  no_step_at_all t u f ts is none j step =
      each_number (λ (r : RewriteRule). has_root f r.left) (λ j. StepsAt system.rules [] j t u → ⊥) step.rule (root_of_step t u f ts j is step) j 0 system.rules none j step.numbered (omega arith) step
