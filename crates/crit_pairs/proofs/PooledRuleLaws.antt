-- The sides of rules in one pool: as they are read, as the pool grows, and one more.
use Rattle.std.proofs.Common.{◌≡◌, ◌<◌, inl, inr, ℕ, ◌+◌, Bool, true, false, List, [], ◌∷◌, ◌++◌, take, length, length-append, length-set, get_or, slice_get, Option, Some, None, Result, Ok, Err, OnOk, refl, ap, sym, ◌∙◌, subst, arith}
use Rattle.std.proofs.lemmas.List.{take_more}
use Rattle.std.proofs.lemmas.Option.{same_Some, slice_get_within, slice_get_read, slice_get-get_or}
use Rattle.std.specs.Borrow.{Bor}
use Rattle.std.specs.Slice.{IsItemAt}
use Rattle.std.specs.Vec.{with_item}
use Rattle.trs_defs.specs.Tree.{Tree}
use Rattle.trs_defs.specs.Variable.{has_var}
use Rattle.trs_defs.specs.System.{RewriteRule}
use Rattle.trs_defs.proofs.ListItems.{item_of_more}
use Rattle.trs_core.specs.SystemLimits.{HasSmallVariables}
use Rattle.term_pool.specs.LeftSides.{IsGround}
use Rattle.term_pool.specs.Pooled.{Extends}
use Rattle.crit_pairs.specs.NumberedVariables.{AreVariableIds}
use Rattle.crit_pairs.specs.PooledSide.{IsPooledSide, side_tree}
use Rattle.crit_pairs.specs.PooledTerms.{ArePooledRights, ArePooledLefts, ArePooledRules}
use Rattle.crit_pairs.specs.declared.numbered_variables.NumberedVariables.{NumberedVariables}
use Rattle.crit_pairs.specs.declared.pooled_rules.PooledRules.{PooledRules}
use Rattle.crit_pairs.specs.declared.pooled_side.PooledSide.{PooledSide}
use Rattle.term_pool.specs.declared.noted_instances.Instances.{Instances}
use Rattle.crit_pairs.proofs.EqualRules.{item_of_set}
use Rattle.term_pool.proofs.InstanceLaws.{ground_on}
use Rattle.crit_pairs.proofs.VariableIds.{variable_ids_on}
use Rattle.crit_pairs.proofs.PooledSides.{side_still, small_side, occurring_listed}
use Rattle.crit_pairs.proofs.SpotWalk.{small_of}

pub whatever_ok : {T E : Type 0} (r : Result T E) (P : Type 0) → P → OnOk r P
whatever_ok (Ok x) P p = p
whatever_ok (Err e) P p = tt

-- ---- sides as they are read

module _ (rules : List RewriteRule) (pool : List Tree) (sides : PooledRules) (k : ℕ) (r : RewriteRule) (pooled : ArePooledRules rules pool sides) (numbered : slice_get rules k ≡ Some r) where
  pub right_read : (side : PooledSide) → side ≡ get_or sides.rights.items k side → IsPooledSide pool r.right side
  right_read side read =
      let less = slice_get_within rules k r numbered in
      let there = slice_get-get_or sides.rights.items k side (omega (arith, less, pooled.rights.count)) in
      pooled.rights.each k side r (there ∙ ap (λ z. Some z) (sym read)) numbered

  pub left_read : (found : Option PooledSide) (side : PooledSide) → found ≡ get_or sides.lefts.items k found → found ≡ Some side → IsPooledSide pool r.left side
  left_read found side read is =
      let less = slice_get_within rules k r numbered in
      let there = slice_get-get_or sides.lefts.items k found (omega (arith, less, pooled.lefts.count)) in
      pooled.lefts.each k side r (there ∙ ap (λ z. Some z) (sym read ∙ is)) numbered

  pub left_number : k < length sides.lefts.items
  left_number = let less = slice_get_within rules k r numbered in omega (arith, less, pooled.lefts.count)

  -- the variables of both sides
  pub right_small : (side : PooledSide) → IsPooledSide pool r.right side → HasSmallVariables (side_tree pool side)
  right_small side h = small_side pool r.right side h (small_of rules k r pooled.small numbered).1

  pub left_small : (now : List Tree) (side : PooledSide) → IsPooledSide now r.left side → HasSmallVariables (side_tree now side)
  left_small now side h = small_side now r.left side h (small_of rules k r pooled.small numbered).0

-- ---- a pool that has grown, after an instance was made

module _ (rules : List RewriteRule) (pool next : List Tree) (sides : PooledRules) (outer inner : Instances) (numbered : NumberedVariables) (more : Extends pool next) (pooled : ArePooledRules rules pool sides) (are : AreVariableIds next numbered) where
  rights_grown : ArePooledRights rules next sides.rights.items
  rights_grown = record {
    count = pooled.rights.count;
    each = λ k side r at there. side_still pool next r.right side more (pooled.rights.each k side r at there);
  }

  pub pooled_instance : ArePooledRules rules next (record { rights = sides.rights; lefts = sides.lefts; ground = sides.ground; outer = outer; inner = inner; numbered = numbered })
  pooled_instance = record {
    small = pooled.small;
    rights = rights_grown;
    lefts = record {
      count = pooled.lefts.count;
      each = λ k side r at there. side_still pool next r.left side more (pooled.lefts.each k side r at there);
    };
    ground = ground_on pool next sides.ground.items more pooled.ground;
    numbered = are;
  }

  -- a left side comes to it
  pub pooled_with_left : (n : ℕ) (new : PooledSide) (rule : RewriteRule) → slice_get rules n ≡ Some rule → IsPooledSide next rule.left new
      → ArePooledRules rules next (record { rights = sides.rights; lefts = with_item sides.lefts n (Some new); ground = sides.ground; outer = outer; inner = inner; numbered = numbered })
  pooled_with_left n new rule numbered_rule is = record {
    small = pooled.small;
    rights = rights_grown;
    lefts = record {
      count = length-set sides.lefts.items n (Some new) ∙ pooled.lefts.count;
      each = λ k side r at there. elim (item_of_set sides.lefts.items n (Some new) k (Some side) at) as (λ _. IsPooledSide next r.left side) [
        | inl h ↦
            let same_side : side ≡ new = same_Some side new h.1 in
            let same_rule : r ≡ rule = same_Some r rule (sym there ∙ (ap (slice_get rules) h.0 ∙ numbered_rule)) in
            rw (same_side, same_rule) is
        | inr old ↦ side_still pool next r.left side more (pooled.lefts.each k side r old there)
      ];
    };
    ground = ground_on pool next sides.ground.items more pooled.ground;
    numbered = are;
  }

pub pooled_still : (rules : List RewriteRule) (pool next : List Tree) (sides : PooledRules) (outer inner : Instances) → Extends pool next → ArePooledRules rules pool sides
    → ArePooledRules rules next (record { rights = sides.rights; lefts = sides.lefts; ground = sides.ground; outer = outer; inner = inner; numbered = sides.numbered })
pooled_still rules pool next sides outer inner more pooled = pooled_instance rules pool next sides outer inner sides.numbered more pooled (variable_ids_on pool next sides.numbered more pooled.numbered)

-- ---- all rules

-- the right side of one rule more
pub one_right_more : (rules : List RewriteRule) (k : ℕ) (rule : RewriteRule) (pool next : List Tree) (old new : List PooledSide) (side : PooledSide) → k < length rules → rule ≡ get_or rules k rule
    → Extends pool next → IsPooledSide next rule.right side → new ≡ old ++ side ∷ [] → ArePooledRights (take k rules) pool old → ArePooledRights (take (k + 1) rules) next new
one_right_more rules k rule pool next old new side less read more is put h =
    let taken : take (k + 1) rules ≡ take k rules ++ rule ∷ [] = take_more rules k rule less ∙ ap (λ x. take k rules ++ x ∷ []) (sym read) in
    subst (ArePooledRights (take (k + 1) rules) next) (sym put) (subst (λ rs. ArePooledRights rs next (old ++ side ∷ [])) (sym taken) (behind (take k rules) h))
  where
    behind : (first : List RewriteRule) → ArePooledRights first pool old → ArePooledRights (first ++ rule ∷ []) next (old ++ side ∷ [])
    behind first h = record {
      count = omega (arith, h.count, length-append first (rule ∷ []), length-append old (side ∷ []));
      each = λ i s r at there. elim (item_of_more old side s i at) as (λ _. IsPooledSide next r.right s) [
        | inl before ↦ elim (item_of_more first rule r i there) as (λ _. IsPooledSide next r.right s) [
          | inl numbered ↦ side_still pool next r.right s more (h.each i s r before numbered)
          | inr last ↦ absurd (omega (arith, last.0, h.count, slice_get_within old i s before))
        ]
        | inr last ↦ elim (item_of_more first rule r i there) as (λ _. IsPooledSide next r.right s) [
          | inl numbered ↦ absurd (omega (arith, last.0, h.count, slice_get_within first i r numbered))
          | inr this ↦ rw (last.1, this.1) is
        ]
      ];
    }

-- no left side yet
pub no_side_more : (old new : List (Option PooledSide)) → new ≡ old ++ None ∷ [] → ((k : ℕ) (side : PooledSide) → slice_get old k ≡ Some (Some side) → ⊥)
    → (k : ℕ) (side : PooledSide) → slice_get new k ≡ Some (Some side) → ⊥
no_side_more old new put none k side at = elim (item_of_more old None (Some side) k (subst (λ xs. slice_get xs k ≡ Some (Some side)) put at)) as (λ _. ⊥) [
  | inl before ↦ none k side before
  | inr last ↦ let clash : Some side ≡ None = last.1 in absurd cc
]

pub no_left : (rules : List RewriteRule) (pool : List Tree) (sides : List (Option PooledSide)) → length sides ≡ length rules
    → ((k : ℕ) (side : PooledSide) → slice_get sides k ≡ Some (Some side) → ⊥) → ArePooledLefts rules pool sides
no_left rules pool sides count none = record { count = count; each = λ k side r at there. absurd (none k side at) }

-- a side whose list of variables is empty
pub ground_side : (pool : List Tree) (t : Tree) (side : PooledSide) → IsPooledSide pool t side → length side.variables.items ≡ 0 → IsGround t
ground_side pool t side h none v = go (has_var v t) refl
  where
    go : (b : Bool) → has_var v t ≡ b → has_var v t ≡ false
    go false e = e
    go true e =
        let (k, x, at, same) = occurring_listed pool t side v h e in
        let past : k < length side.variables.items = slice_get_within side.variables.items k x at in
        absurd (omega (arith, past, none))

-- a right side as it is looked up
pub right_got : (rules : List RewriteRule) (pool : List Tree) (sides : PooledRules) (k : ℕ) (r : RewriteRule) (items : List PooledSide) (side : Bor PooledSide) → ArePooledRules rules pool sides
    → slice_get rules k ≡ Some r → items ≡ sides.rights.items → IsItemAt items k (Some side) → IsPooledSide pool r.right side.now
right_got rules pool sides k r items side pooled numbered same item =
    let read : slice_get items k ≡ Some side.now = slice_get_read items (length items) k side.now refl item.3.0 item.1 in
    pooled.rights.each k side.now r (ap (λ xs. slice_get xs k) (sym same) ∙ read) numbered
