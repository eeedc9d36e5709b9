-- What is known of rules and of ids stays right as more is found out, and as the pool grows.
use Rattle.std.proofs.Common.{◌≡◌, ◌≢◌, ℕ, ◌<◌, ◌≤◌, ◌-◌, ◌^◌, min, true, false, cond, List, [], ◌∷◌, Option, Some, None, Result, Ok, Err, IfOk, OnOk, IfSome, IfNone, is_some, slice_get, refl, ap, sym, ◌∙◌, arith}
use Rattle.std.specs.Option.{option_and_then}
use Rattle.std.specs.BTreeMap as map
use Rattle.std.specs.BTreeMap.{get, is_at}
use Rattle.std.proofs.Math.Decide.{ℕ_discrete}
use Rattle.std.proofs.lemmas.Grind.{common_steps}
use Rattle.std.proofs.lemmas.Option.{same_Some}
use Rattle.trs_defs.specs.Tree.{Tree, Trees, var, app, nil, cons}
use Rattle.trs_defs.specs.Size.{size_of, size_of_all}
use Rattle.trs_defs.specs.Substitution.{apply, apply_all, IsInstance}
use Rattle.trs_defs.specs.Position.{argument_at, subterm_at, replaced_at}
use Rattle.trs_defs.specs.System.{RewriteRule}
use Rattle.trs_defs.specs.Path.{PlacedRule, StepsAt}
use Rattle.trs_defs.proofs.Contexts.{replaced_somehow}
use Rattle.trs_defs.proofs.Positions.{replaced_inside}
use Rattle.term_pool.specs.Pooled.{Extends, tree_at}
use Rattle.term_pool.specs.Placing.{HasPut, IsPlaced, IsTooLargePut}
use Rattle.term_pool.specs.Steps.{IsTooLarge}
use Rattle.term_pool.specs.Reaching.{IsReduct}
use Rattle.term_pool.specs.Known.{pair_cmp, IsContractum, IsContractumAt, IsKnown}
use Rattle.term_pool.specs.declared.known.Known.{Known}
use Rattle.term_pool.proofs.PoolPlaces.{argument_set}
use Rattle.term_pool.proofs.Extending.{same_tree_at}

-- ---- a term with fewer nodes than a pattern is no instance of it

pub some_node : (t : Tree) → 1 ≤ size_of t
some_node (var n) = omega arith
some_node (app f ts) = omega arith

mutual
  pub size_instance : (s : ℕ → Tree) (t : Tree) → size_of t ≤ size_of (apply s t)
  size_instance s (var n) = some_node (s n)
  size_instance s (app f ts) = omega (arith, size_instances s ts)

  pub size_instances : (s : ℕ → Tree) (ts : Trees) → size_of_all ts ≤ size_of_all (apply_all s ts)
  size_instances s nil = omega arith
  size_instances s (cons t ts) = omega (arith, size_instance s t, size_instances s ts)

pub too_small : (left t : Tree) (n size : ℕ) → n ≡ min (size_of left) (2 ^ 32 - 1) → size ≡ min (size_of t) (2 ^ 32 - 1) → size < n → IsInstance left t → ⊥
too_small left t n size least is few h =
    let larger = size_instance h.0 left in
    let same : size_of (apply h.0 left) ≡ size_of t = ap size_of h.1 in
    absurd (omega (arith, least, is, few, larger, same))

-- ---- one contractum more is known

module _ (rules : List RewriteRule) (pool : List Tree) (before after : Known) (known : IsKnown rules pool before) where
  first_other : (i k j m : ℕ) → i ≢ j → is_at (pair_cmp (i, k)) (j, m) ≡ false
  first_other i k j m h = grind (arith, common_steps)

  second_other : (i k m : ℕ) → k ≢ m → is_at (pair_cmp (i, k)) (i, m) ≡ false
  second_other i k m h = grind (arith, common_steps)

  pub one_contractum_more : (id k by : ℕ) → IsContractum rules pool id k by
      → map.Updates pair_cmp before.contracta after.contracta (id, k) (Some by) → after.left_sizes ≡ before.left_sizes → after.normal ≡ before.normal → IsKnown rules pool after
  one_contractum_more id k by is updates sizes normal = record {
    sizes = λ i n r h. known.sizes i n r (rw sizes at h);
    below = λ i h. known.below i (rw normal at h);
    normal = λ i h. known.normal i (rw normal at h);
    contracta = λ j m other h. noted j m other h (ℕ_discrete id j) (ℕ_discrete k m);
  }
    where
      older : (j m other : ℕ) → get pair_cmp after.contracta (j, m) ≡ Some other → is_at (pair_cmp (id, k)) (j, m) ≡ false → IsContractum rules pool j m other
      older j m other h differ =
          let stays : get pair_cmp after.contracta (j, m) ≡ get pair_cmp before.contracta (j, m) = updates.0 (j, m) ∙ ap (λ b. cond b (Some by) (get pair_cmp before.contracta (j, m))) differ in
          known.contracta j m other (sym stays ∙ h)

      noted : (j m other : ℕ) → get pair_cmp after.contracta (j, m) ≡ Some other → Dec (id ≡ j) → Dec (k ≡ m) → IsContractum rules pool j m other
      noted j m other h (no apart) whether = older j m other h (first_other id k j m apart)
      noted j m other h (yes same) (no apart) = older j m other h (rw (← same) (second_other id k m apart))
      noted j m other h (yes same) (yes equal) =
          let new : get pair_cmp after.contracta (id, k) ≡ Some by = updates.1 in
          let old : get pair_cmp after.contracta (id, k) ≡ Some other = rw (same, equal) h in
          let value : by ≡ other = same_Some by other (sym new ∙ old) in
          rw (← same, ← equal, ← value) is

-- ---- the pool grows

pub known_on : (rules : List RewriteRule) (a b : List Tree) (known : Known) → Extends a b → IsKnown rules a known → IsKnown rules b known
known_on rules a b known extends h = record {
  sizes = h.sizes;
  below = λ i is. omega (arith, h.below i is, extends.longer);
  normal = λ i is redex. h.normal i is (rw (same_tree_at a b extends i (h.below i is)) at redex);
  contracta = λ id k by is.
      let c = h.contracta id k by is in
      let first : tree_at b id ≡ tree_at a id = same_tree_at a b extends id c.from in
      let last : tree_at b by ≡ tree_at a by = same_tree_at a b extends by c.to in
      record { from = omega (arith, c.from, extends.longer); to = omega (arith, c.to, extends.longer); steps = rw (first, last) c.steps };
}

-- ---- steps and their contracta

-- what was put stands at its place
subterm_put : (p : List ℕ) (t new u : Tree) → replaced_at p t new ≡ Some u → subterm_at p u ≡ Some new
subterm_put [] t new u e = sym e
subterm_put (place ∷ p) t new u e =
    let r = replaced_inside place p t new u e in
    let there : argument_at u place ≡ Some r.changed = ap (λ z. argument_at z place) (sym r.whole) ∙ argument_set t place r.argument r.changed r.there in
    ap (λ o. option_and_then (subterm_at p) o) there ∙ subterm_put p r.argument new r.changed r.below

module _ (rules : List RewriteRule) (p : List ℕ) (k : ℕ) (t : Tree) where
  -- the contractum stands in the reduct where the redex stood
  pub contractum_of : (u part by : Tree) → StepsAt rules p k t u → subterm_at p t ≡ Some part → subterm_at p u ≡ Some by → StepsAt rules [] k part by
  contractum_of u part by step there put =
      let redex : part ≡ apply step.substitution step.rule.left = same_Some part _ (sym there ∙ step.from) in
      let contractum : by ≡ apply step.substitution step.rule.right = same_Some by _ (sym put ∙ subterm_put p t _ u step.to) in
      record { rule = step.rule; numbered = step.numbered; substitution = step.substitution; from = ap (λ z. Some z) redex; to = ap (λ z. Some z) (sym contractum) }

  pub step_below : (part by u : Tree) → subterm_at p t ≡ Some part → StepsAt rules [] k part by → replaced_at p t by ≡ Some u → StepsAt rules p k t u
  step_below part by u there step put =
      let redex : part ≡ apply step.substitution step.rule.left = same_Some part _ step.from in
      let contractum : apply step.substitution step.rule.right ≡ by = same_Some _ by step.to in
      record { rule = step.rule; numbered = step.numbered; substitution = step.substitution; from = rw (← redex) there; to = rw contractum put }

-- a contractum can be put where its redex stands
pub contractum_put : (rules : List RewriteRule) (pool : List Tree) (id : ℕ) (s : PlacedRule) (by : ℕ) → IsContractumAt rules pool (tree_at pool id) s by → HasPut pool s.place id by
contractum_put rules pool id s by h =
    let whole = replaced_somehow s.place (tree_at pool id) h.part (tree_at pool by) h.place in
    record { result = whole.0; put = whole.1 }

pub contractum_read : (rules : List RewriteRule) (pool : List Tree) (known : Known) (t : Tree) (s : PlacedRule) (part : ℕ) (o : Option ℕ) → IsKnown rules pool known
    → subterm_at s.place t ≡ Some (tree_at pool part) → o ≡ get pair_cmp known.contracta (part, s.rule) → IfSome o (IsContractumAt rules pool t s)
contractum_read rules pool known t s part None h place is = tt
contractum_read rules pool known t s part (Some by) h place is =
    let c = h.contracta part s.rule by (sym is) in
    record { there = c.to; part = tree_at pool part; place = place; steps = c.steps }

-- where a contractum is known, a redex is
pub redex_known : (rules : List RewriteRule) (pool : List Tree) (known : Known) (id k : ℕ) (rule : RewriteRule) → IsKnown rules pool known → slice_get rules k ≡ Some rule
    → is_some (get pair_cmp known.contracta (id, k)) ≡ true → IsInstance rule.left (tree_at pool id)
redex_known rules pool known id k rule h numbered there = go (get pair_cmp known.contracta (id, k)) refl there
  where
    go : (o : Option ℕ) → get pair_cmp known.contracta (id, k) ≡ o → is_some o ≡ true → IsInstance rule.left (tree_at pool id)
    go None is some = absurd cc
    go (Some by) is some =
        let step = (h.contracta id k by is).steps in
        let same : step.rule ≡ rule = same_Some step.rule rule (sym step.numbered ∙ numbered) in
        let redex : tree_at pool id ≡ apply step.substitution step.rule.left = same_Some (tree_at pool id) _ step.from in
        (step.substitution, ap (λ r. apply step.substitution r.left) (sym same) ∙ sym redex)

-- ---- answers

pub on_ok : {T E : Type 0} (r : Result T E) {P : Type 0} → P → OnOk r P
on_ok (Ok x) h = h
on_ok (Err e) h = tt

pub on_made : {E : Type 0} (r : Result (Option ℕ) E) (P Q : ℕ → Type 0) → ((n : ℕ) → P n → Q n) → IfOk r (λ made. IfSome made P) → IfOk r (λ made. IfSome made Q)
on_made (Ok (Some n)) P Q f h = f n h
on_made (Ok None) P Q f h = h
on_made (Err e) P Q f h = h

pub on_none : {E : Type 0} (r : Result (Option ℕ) E) (P Q : Type 0) → (P → Q) → IfOk r (λ made. IfNone made P) → IfOk r (λ made. IfNone made Q)
on_none (Ok (Some n)) P Q f h = h
on_none (Ok None) P Q f h = f h
on_none (Err e) P Q f h = h

module _ (rules : List RewriteRule) (pool : List Tree) (id : ℕ) (s : PlacedRule) (by : ℕ) (h : IsContractumAt rules pool (tree_at pool id) s by) where
  pub placed_reduct : (new : List Tree) (reduct : ℕ) → IsPlaced s.place (tree_at pool id) (tree_at pool by) pool new reduct → IsReduct rules s (tree_at pool id) pool new reduct
  placed_reduct new reduct made = record {
    steps = step_below rules s.place s.rule (tree_at pool id) h.part (tree_at pool by) (tree_at new reduct) h.place h.steps made.put;
    limits = made.limits;
    there = made.there;
    few = made.few;
  }

  pub too_large_reduct : IsTooLargePut s.place (tree_at pool id) (tree_at pool by) → IsTooLarge rules s.place s.rule (tree_at pool id)
  too_large_reduct large = record {
    result = large.result;
    steps = step_below rules s.place s.rule (tree_at pool id) h.part (tree_at pool by) large.result h.place h.steps large.put;
    large = large.large;
  }
