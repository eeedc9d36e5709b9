-- Right sides with no variable: rules and ids come to them, and peaks at the root have them as results.
use Rattle.std.proofs.Common.{◌≡◌, ◌<◌, inl, inr, ℕ, ◌+◌, List, [], ◌∷◌, ◌++◌, take, length, length-append, get_or, slice_get, Bool, true, false, Option, Some, None, IfSome, refl, ap, sym, ◌∙◌, subst, arith}
use Rattle.std.proofs.lemmas.List.{take_more}
use Rattle.std.proofs.lemmas.Option.{slice_get_within}
use Rattle.std.proofs.lemmas.Bool.{or_parts}
use Rattle.std.proofs.lemmas.Bool.Decides.{nat_tests}
use Rattle.std.specs.Prelude.{◌==◌}
use Rattle.trs_defs.specs.Tree.{Tree, Trees, var, app, nil, cons}
use Rattle.trs_defs.specs.LeastVariable.{least_variable, least_of_all}
use Rattle.trs_defs.specs.System.{RewriteRule}
use Rattle.trs_defs.specs.Variable.{has_var, some_has_var}
use Rattle.trs_defs.proofs.LeastVariables.{least_skips}
use Rattle.trs_defs.proofs.ListItems.{item_of_more}
use Rattle.term_pool.specs.Pooled.{Extends}
use Rattle.term_pool.specs.LeftSides.{IsGround}
use Rattle.crit_pairs.specs.GroundSides.{IsGroundSide, AreGroundRights}
use Rattle.crit_pairs.specs.declared.ground_sides.GroundSide.{GroundSide}

-- a term with no least variable has none
pub no_variable : (t : Tree) → least_variable 0 None t ≡ None → IsGround t
no_variable t none v = go (has_var v t) refl
  where
    go : (b : Bool) → has_var v t ≡ b → has_var v t ≡ false
    go false e = e
    go true e = absurd ((least_skips 0 t None v (omega arith) (rw none tt)).1 e)

itself : (v : ℕ) → (v == v) ≡ false → ⊥
itself v e = absurd (grind (arith, nat_tests, e))

mutual
  -- a term with no variable has no least one
  ground_least : (t : Tree) (from : ℕ) (best : Option ℕ) → IsGround t → least_variable from best t ≡ best
  ground_least (var v) from best ground = absurd (itself v (ground v))
  ground_least (app f ts) from best ground = ground_least_of_all ts from best ground

  ground_least_of_all : (ts : Trees) (from : ℕ) (best : Option ℕ) → ((v : ℕ) → some_has_var v ts ≡ false) → least_of_all from best ts ≡ best
  ground_least_of_all nil from best ground = refl
  ground_least_of_all (cons t ts) from best ground =
      ap (λ b. least_of_all from b ts) (ground_least t from best (λ v. (or_parts (has_var v t) (some_has_var v ts) (ground v)).0))
      ∙ ground_least_of_all ts from best (λ v. (or_parts (has_var v t) (some_has_var v ts) (ground v)).1)

pub none_least : (t : Tree) (o : Option ℕ) (x : ℕ) → o ≡ least_variable 0 None t → o ≡ Some x → IsGround t → ⊥
none_least t o x e is ground =
    let none : Some x ≡ None = sym is ∙ (e ∙ ground_least t 0 None ground) in
    absurd cc

-- the ids still stand for the right sides in a pool that has grown
pub rights_still : (rules : List RewriteRule) (pool next : List Tree) (sides : List (Option GroundSide)) → Extends pool next → AreGroundRights rules pool sides → AreGroundRights rules next sides
rights_still rules pool next sides more h = record {
  count = h.count;
  each = λ k side r at there.
      let g = h.each k side r at there in
      record { stands = more.kept side.id r.right g.stands; ground = g.ground; small = g.small; size = g.size };
}

-- each item is of the rule with its number
abbrev pub AreOfRules : {X : Type 0} → (RewriteRule → X → Type 0) → List RewriteRule → List (Option X) → Type 0
AreOfRules {X} of_rule rules items = (k : ℕ) (item : X) (r : RewriteRule) → slice_get items k ≡ Some (Some item) → slice_get rules k ≡ Some r → of_rule r item

-- one rule more
pub item_behind : {X : Type 0} (of_rule : RewriteRule → X → Type 0) (rules : List RewriteRule) (r : RewriteRule) (items : List (Option X)) (item : Option X) → length items ≡ length rules
    → IfSome item (of_rule r) → AreOfRules of_rule rules items → AreOfRules of_rule (rules ++ r ∷ []) (items ++ item ∷ [])
item_behind {X} of_rule rules r items item count some h k s x at there =
    elim (item_of_more items item (Some s) k at) as (λ _. of_rule x s) [
      | inl old ↦ elim (item_of_more rules r x k there) as (λ _. of_rule x s) [
        | inl known ↦ h k s x old known
        | inr (last, is) ↦ absurd (omega (arith, slice_get_within items k (Some s) old, last, count))
      ]
      | inr (final, one) ↦ elim (item_of_more rules r x k there) as (λ _. of_rule x s) [
        | inl known ↦ absurd (omega (arith, slice_get_within rules k x known, final, count))
        | inr (last, is) ↦ (
            let S : Option X → Type 0 = λ o. IfSome o (of_rule r) in
            let R : RewriteRule → Type 0 = λ z. of_rule z s in
            subst R (sym is) (subst S (sym one) some))
      ]
    ]

rights_behind : (rules : List RewriteRule) (r : RewriteRule) (pool : List Tree) (sides : List (Option GroundSide)) (side : Option GroundSide) → IfSome side (IsGroundSide pool r.right)
    → AreGroundRights rules pool sides → AreGroundRights (rules ++ r ∷ []) pool (sides ++ side ∷ [])
rights_behind rules r pool sides side some h = record {
  count = omega (arith, h.count, length-append rules (r ∷ []), length-append sides (side ∷ []));
  each = item_behind (λ (z : RewriteRule). IsGroundSide pool z.right) rules r sides side h.count some h.each;
}

pub one_right_more : (rules : List RewriteRule) (k : ℕ) (rule : RewriteRule) (pool next : List Tree) (old new : List (Option GroundSide)) (side : Option GroundSide) → k < length rules
    → rule ≡ get_or rules k rule → Extends pool next → IfSome side (IsGroundSide next rule.right) → new ≡ old ++ side ∷ [] → AreGroundRights (take k rules) pool old
    → AreGroundRights (take (k + 1) rules) next new
one_right_more rules k rule pool next old new side less read more some put h =
    let taken : take (k + 1) rules ≡ take k rules ++ rule ∷ [] = take_more rules k rule less ∙ ap (λ x. take k rules ++ x ∷ []) (sym read) in
    let N : List (Option GroundSide) → Type 0 = AreGroundRights (take (k + 1) rules) next in
    let T : List RewriteRule → Type 0 = λ rs. AreGroundRights rs next (old ++ side ∷ []) in
    subst N (sym put) (subst T (sym taken) (rights_behind (take k rules) rule next old side some (rights_still (take k rules) pool next old more h)))
