-- The left sides of rules in a pool, and terms that are no instances of them.
use Rattle.std.proofs.Common.{◌≡◌, All, ℕ, ◌+◌, ◌<◌, ◌≤◌, Bool, true, false, inl, inr, List, [], ◌∷◌, ◌++◌, map, take, length, Option, Some, None, IfSome, IsTrue, slice_get, length-append, refl, sym, ◌∙◌, subst, arith}
use Rattle.std.proofs.lemmas.Option.{same_Some}
use Rattle.std.proofs.lemmas.List.{take_all}
use Rattle.std.proofs.lemmas.List.Elements.{All-head, All-tail}
use Rattle.trs_defs.specs.Tree.{Tree, var, app, trees}
use Rattle.trs_defs.specs.Variable.{has_var, some_has_var}
use Rattle.trs_defs.specs.Substitution.{apply, IsInstance}
use Rattle.trs_defs.specs.System.{RewriteRule}
use Rattle.trs_defs.proofs.NamedTerms.{unchanged}
use Rattle.trs_defs.proofs.Substitutions.{same_instance}
use Rattle.trs_defs.proofs.ListItems.{item_of_more}
use Rattle.term_pool.specs.Pooled.{AreDistinct, StandsFor, Extends, tree_at}
use Rattle.term_pool.specs.LeftSides.{IsGround, AreGround, AreLeftSides}
use Rattle.term_pool.specs.declared.left_sides.LeftSides.{LeftSides}
use Rattle.term_pool.proofs.PoolTrees.{stands, stands_at, stands_within}
use Rattle.term_pool.proofs.Extending.{extends_itself, extends_on}

empty_at : {X : Type 0} {x : X} (k : ℕ) → slice_get {X = X} [] k ≡ Some x → ⊥
empty_at k e = absurd cc

-- ---- marks

-- the term has no variable in its arguments
no_variable : (pool : List Tree) (ids : List ℕ) → All (λ id. IsGround (tree_at pool id)) ids → (v : ℕ) → some_has_var v (trees (map (tree_at pool) ids)) ≡ false
no_variable pool [] h v = refl
no_variable pool (id ∷ ids) h v =
    let first : has_var v (tree_at pool id) ≡ false = All-head (λ id. IsGround (tree_at pool id)) id ids h v in
    let rest : some_has_var v (trees (map (tree_at pool) ids)) ≡ false = no_variable pool ids (All-tail (λ id. IsGround (tree_at pool id)) id ids h) v in
    rw (first, rest) refl

pub ground_over : (pool : List Tree) (t : Tree) (f i : ℕ) (ids : List ℕ) → t ≡ app f (trees (map (tree_at pool) ids)) → length ids ≤ i → All (λ id. IsGround (tree_at pool id)) (take i ids) → IsGround t
ground_over pool t f i ids is all h v =
    let each : All (λ id. IsGround (tree_at pool id)) ids = subst (All (λ id. IsGround (tree_at pool id))) (take_all i ids all) h in
    rw is (no_variable pool ids each v)

pub one_more_mark : (pool : List Tree) (marks : List Bool) (mark : Bool) (id : ℕ) → length marks ≡ id → AreGround pool marks → (IsTrue mark → IsGround (tree_at pool id)) → AreGround pool (marks ++ mark ∷ [])
one_more_mark pool marks mark id count so_far new = record {
  each = λ i at. elim (item_of_more marks mark true i at) as (λ _. IsGround (tree_at pool i)) [
    | inl old ↦ so_far.each i old
    | inr (last, is) ↦ let same : i ≡ id = last ∙ count in rw same (new (sym is))
  ];
}

-- ---- terms that are no instances

clash : (b : Bool) → b ≡ false → IsTrue b → ⊥
clash b f t = absurd cc

-- a ground term is its own instance
pub ground_stays : (s : ℕ → Tree) (t : Tree) → IsGround t → apply s t ≡ t
ground_stays s t ground = same_instance s (λ v. var v) t (λ v h. absurd (clash (has_var v t) (ground v) h)) ∙ unchanged t

pub ground_apart : (pool : List Tree) (p id : ℕ) → AreDistinct pool → p < length pool → id < length pool → (p ≡ id → ⊥) → IsGround (tree_at pool p) → IsInstance (tree_at pool p) (tree_at pool id) → ⊥
ground_apart pool p id distinct there within differ ground (s, is) =
    let same : tree_at pool p ≡ tree_at pool id = sym (ground_stays s (tree_at pool p) ground) ∙ is in
    differ (distinct.same p id (tree_at pool id) (subst (StandsFor pool p) same (stands pool p there)) (stands pool id within))

-- ---- left sides that get their ids

pub record AreAdded (rules : List RewriteRule) (start now : List Tree) (ids : List ℕ) (k : ℕ) : Type 0 where
  pub kept : Extends start now
  pub count : length ids ≡ k
  pub each : (i id : ℕ) (r : RewriteRule) → slice_get ids i ≡ Some id → slice_get rules i ≡ Some r → StandsFor now id r.left

pub none_added : (rules : List RewriteRule) (start : List Tree) (ids : List ℕ) → ids ≡ [] → AreAdded rules start start ids 0
none_added rules start ids e = rw e (record { kept = extends_itself start; count = refl; each = λ i id r at there. absurd cc })

pub one_added : (rules : List RewriteRule) (start now next : List Tree) (ids : List ℕ) (k id : ℕ) (rule : RewriteRule) → AreAdded rules start now ids k → slice_get rules k ≡ Some rule
    → Extends now next → StandsFor next id rule.left → AreAdded rules start next (ids ++ id ∷ []) (k + 1)
one_added rules start now next ids k id rule so_far numbered kept stand = record {
  kept = extends_on start now next so_far.kept kept;
  count = omega (arith, so_far.count, length-append ids (id ∷ []));
  each = λ i j r at there. elim (item_of_more ids id j i at) as (λ _. StandsFor next j r.left) [
    | inl old ↦ kept.kept j r.left (so_far.each i j r old there)
    | inr (last, is) ↦
        let place : i ≡ k = last ∙ so_far.count in
        let same : rule ≡ r = same_Some rule r (sym numbered ∙ subst (λ n. slice_get rules n ≡ Some r) place there) in
        rw (is, ← same) stand
  ];
}

pub no_sides : (rules : List RewriteRule) (pool : List Tree) (sides : LeftSides) → sides.ids.items ≡ [] → sides.ground.items ≡ [] → AreLeftSides rules pool sides
no_sides rules pool sides none unmarked = record {
  each = λ k id r at there. let e : slice_get {X = ℕ} [] k ≡ Some id = rw none at at in absurd (empty_at k e);
  ground = record { each = λ id at. let e : slice_get {X = Bool} [] id ≡ Some true = rw unmarked at at in absurd (empty_at id e) };
}

-- what is no instance of a rule's left side in the pool is none of the left side
pub side_refuted : (rules : List RewriteRule) (pool : List Tree) (sides : LeftSides) (k side : ℕ) (r : RewriteRule) (t : Tree) → AreLeftSides rules pool sides
    → slice_get sides.ids.items k ≡ Some side → slice_get rules k ≡ Some r → (IsInstance (tree_at pool side) t → ⊥) → IsInstance r.left t → ⊥
side_refuted rules pool sides k side r t are at there none inst =
    let same : tree_at pool side ≡ r.left = stands_at pool side r.left (are.each k side r at there) in
    none (rw same inst)

pub side_within : (rules : List RewriteRule) (pool : List Tree) (sides : LeftSides) (k side : ℕ) (r : RewriteRule) → AreLeftSides rules pool sides
    → slice_get sides.ids.items k ≡ Some side → slice_get rules k ≡ Some r → side < length pool
side_within rules pool sides k side r are at there = stands_within pool side r.left (are.each k side r at there)

pub last_failed : (P : ℕ → Type 0) (last : Option ℕ) (side : ℕ) → last ≡ Some side → IfSome last P → P side
last_failed P last side is h = rw is at h

-- the left side that was tried last
pub side_failed : (rules : List RewriteRule) (pool : List Tree) (sides : LeftSides) (k : ℕ) (r : RewriteRule) (t : Tree) (o : Option ℕ) → AreLeftSides rules pool sides
    → o ≡ slice_get sides.ids.items k → slice_get rules k ≡ Some r → (IsInstance r.left t → ⊥) → IfSome o (λ side. IsInstance (tree_at pool side) t → ⊥)
side_failed rules pool sides k r t None are at there none = tt
side_failed rules pool sides k r t (Some side) are at there none = λ inst.
    let same : tree_at pool side ≡ r.left = stands_at pool side r.left (are.each k side r (sym at) there) in
    none (rw same at inst)
