-- The rules with the root of a term, in order: the first that matches at the root, or none of all rules.
use Rattle.std.proofs.Common.{◌≡◌, ◌<◌, ℕ, All, ap, sym, subst, ◌∙◌, arith, List, length, take, Some, None, slice_get, slice_index}
use Rattle.std.proofs.lemmas.Option.{slice_get-get_or}
use Rattle.trs_defs.specs.Tree.{Tree, Trees, app}
use Rattle.trs_defs.specs.Variable.{IsVariable}
use Rattle.trs_defs.specs.Substitution.{IsInstance}
use Rattle.trs_defs.specs.System.{RewriteRule, has_root}
use Rattle.trs_defs.proofs.Members.{in_of_get}
use Rattle.trs_defs.proofs.ListItems.{item_there}
use Rattle.term_pool.specs.Redex.{IsRedex}
use Rattle.term_pool.specs.Roots.{with_root}
use Rattle.term_pool.proofs.NumberLaws.{each_before}
use Rattle.term_pool.proofs.RootRules.{AreProper, IsSuch, NoneSuch, Matches, root_of_match, no_redex, no_redex_at_variable}
use Rattle.completion.specs.Searching.{IsRootFound}
use Rattle.completion.proofs.SearchLaws.{NoneBelow, at_root, root_first}

-- the rule of the next number
pub next_rule : (rules : List RewriteRule) (ks : List ℕ) (i : ℕ) → All (λ k. k < length rules) ks → i < length ks → (rule : RewriteRule) × (slice_get rules (slice_index ks i) ≡ Some rule)
next_rule rules ks i below within = item_there rules (slice_index ks i) (below i 0 within)

-- no rule matches at the root
no_root : (rules : List RewriteRule) (t : Tree) → (IsRedex rules t → ⊥) → IsRootFound rules t None
no_root rules t none u r e = none (r.rule, in_of_get rules u.rule r.rule r.numbered, at_root rules t u e r)

module _ (all rules : List RewriteRule) (t : Tree) where
  pub none_at_variable : rules ≡ all → AreProper rules → IsVariable t → IsRootFound all t None
  none_at_variable same proper is =
      let R : List RewriteRule → Type 0 = λ rs. IsRootFound rs t None in
      subst R same (no_root rules t (no_redex_at_variable rules t is.0 proper is.1))

  module _ (f : ℕ) (same : rules ≡ all) (proper : AreProper rules) (is : (ts : Trees) × (t ≡ app f ts)) where
    none_before : (i k : ℕ) → slice_get (with_root f rules) i ≡ Some k → NoneSuch (Matches t) rules (take i (with_root f rules)) → NoneBelow rules t k
    none_before i k at none j r less there inst =
        each_before (λ (q : RewriteRule). has_root f q.left) (λ n. IsSuch (Matches t) rules n → ⊥) r (root_of_match rules t f is.0 proper is.1 j r there inst) j k less 0 rules i at none j there
        (omega arith) (r, there, inst)

    pub first_with_root : (ks : List ℕ) → ks ≡ with_root f all → (i : ℕ) → i < length ks → (rule : RewriteRule) → slice_get rules (slice_index ks i) ≡ Some rule → IsInstance rule.left t
        → NoneSuch (Matches t) rules (take i ks) → IsRootFound all t (Some (slice_index ks i))
    first_with_root ks numbers i within rule there inst none =
        let R : List RewriteRule → Type 0 = λ rs. IsRootFound rs t (Some (slice_index ks i)) in
        let are : ks ≡ with_root f rules = numbers ∙ ap (with_root f) (sym same) in
        let at : slice_get (with_root f rules) i ≡ Some (slice_index ks i) = subst (λ ns. slice_get ns i ≡ Some (slice_index ks i)) are (slice_get-get_or ks i 0 within) in
        let before : NoneSuch (Matches t) rules (take i (with_root f rules)) = subst (λ ns. NoneSuch (Matches t) rules (take i ns)) are none in
        subst R same (root_first rules t (slice_index ks i) rule there inst (none_before i (slice_index ks i) at before))

    pub none_with_root : NoneSuch (Matches t) rules (with_root f rules) → IsRootFound all t None
    none_with_root none =
        let R : List RewriteRule → Type 0 = λ rs. IsRootFound rs t None in
        subst R same (no_root rules t (no_redex rules t f is.0 proper is.1 none))
