-- Outlines of rules: the variables in them, matches by them, and how they are made.
use Rattle.std.proofs.Common.{◌≡◌, All, ℕ, ◌+◌, ◌<◌, ◌≤◌, List, [], ◌∷◌, ◌++◌, map, take, drop, length, get_or, slice_get, Option, Some, None, refl, ap, sym, ◌∙◌, subst, arith}
use Rattle.std.specs.Ordering.{nat_cmp}
use Rattle.std.specs.BTreeMap as map_of
use Rattle.std.specs.BTreeMap.{get}
use Rattle.std.proofs.Math.Decide.{ℕ_discrete}
use Rattle.std.proofs.lemmas.Bool.Decides.{nat_tests}
use Rattle.std.proofs.lemmas.Option.{same_Some}
use Rattle.std.proofs.lemmas.List.{take_all}
use Rattle.std.proofs.lemmas.List.Elements.{All-head, All-tail, All-get_or}
use Rattle.trs_defs.specs.Tree.{Tree, app, trees}
use Rattle.trs_defs.specs.Size.{size_of}
use Rattle.trs_defs.specs.Substitution.{apply, apply_all, IsInstance}
use Rattle.trs_defs.specs.System.{RewriteRule}
use Rattle.trs_defs.proofs.ArgumentLists.{cell}
use Rattle.trs_defs.proofs.Substitutions.{same_instance}
use Rattle.trs_core.specs.SystemLimits.{HasSmallVariables, HaveSmallVariables, nodes_of as nodes_of_rules}
use Rattle.trs_core.specs.declared.terms.Term.{Term}
use Rattle.trs_core.specs.View.{tree, forest}
use Rattle.trs_core.proofs.NumberKeys.{at_other}
use Rattle.term_pool.specs.Pooled.{StandsFor, Extends, tree_at}
use Rattle.term_pool.specs.Bindings.{bound, part_id, NamesParts, HasIds, bound_terms, instance_of}
use Rattle.term_pool.specs.Matching.{Agrees, Refutes}
use Rattle.term_pool.specs.Outlines.{IsOutlineOf, IsOutline, AreOutlines, HasNoMatchOver, part_variable}
use Rattle.term_pool.specs.declared.bindings.Bindings.{Bindings}
use Rattle.term_pool.specs.declared.outlines.Outlines.{Outlines}
use Rattle.term_pool.proofs.PoolTrees.{stands_at, stands_within}
use Rattle.term_pool.proofs.Extending.{extends_itself, extends_on, same_tree_at}
use Rattle.term_pool.proofs.ArgumentIds.{nodes_of, next_nodes, one_more_value}
use Rattle.term_pool.proofs.InstanceIds.{instances}

-- ---- pools that grow

named_before : (a b : List Tree) → Extends a b → (s : ℕ → Tree) → NamesParts b s → NamesParts a s
named_before a b extends s names id l = names id (omega (arith, l, extends.longer)) ∙ same_tree_at a b extends id l

pub outline_on : (a b : List Tree) → Extends a b → (r o : RewriteRule) → IsOutline a r o → IsOutline b r o
outline_on a b extends r o h = record {
  left = λ s names. h.left s (named_before a b extends s names);
  right = λ s names. h.right s (named_before a b extends s names);
}

pub outlines_on : (rules : List RewriteRule) (a b : List Tree) (os : Outlines) → Extends a b → AreOutlines rules a os → AreOutlines rules b os
outlines_on rules a b os extends h = record { each = λ k o r there at. outline_on a b extends r o (h.each k o r there at) }

pub outline_itself : (pool : List Tree) (r : RewriteRule) → IsOutline pool r r
outline_itself pool r = record { left = λ s names. refl; right = λ s names. refl }

-- ---- the variables that stand for parts

part_at : (parts id : ℕ) → id < parts → part_id parts (65536 + id) ≡ Some id
part_at parts id l = grind (arith, nat_tests)

pub part_back : (parts v id : ℕ) → part_id parts v ≡ Some id → (65536 + id ≡ v) × (id < parts)
part_back parts v id e = grind (arith, nat_tests)

part_of_small : (parts v : ℕ) → v < 65536 → part_id parts v ≡ None
part_of_small parts v l = grind (arith, nat_tests)

-- bindings of parts alone
module _ (pool : List Tree) (m : Bindings) (parts : ℕ) (all : parts ≡ length pool) (given : (v : ℕ) → bound m v ≡ part_id parts v) where
  pub parts_there : HasIds pool m
  parts_there = record { within = λ v id e. let (is, l) = part_back parts v id (sym (given v) ∙ e) in omega (arith, l, all) }

  agrees_named : (s : ℕ → Tree) → NamesParts pool s → Agrees pool m s
  agrees_named s names v id e =
      let (is, l) = part_back parts v id (sym (given v) ∙ e) in
      ap s (sym is) ∙ names id (omega (arith, l, all))

  pub named_agrees : (s : ℕ → Tree) → Agrees pool m s → NamesParts pool s
  named_agrees s agrees id l = agrees (65536 + id) id (given (65536 + id) ∙ part_at parts id (omega (arith, l, all)))

  pub none_over : (pattern term : Tree) → Refutes pool pattern term m → HasNoMatchOver pool pattern term
  none_over pattern term refutes s names is = refutes.none s (agrees_named s names) is

-- ---- matches by an outline

abbrev named_or : List Tree → Tree → Option ℕ → Tree
named_or pool t None = t
named_or pool t (Some id) = tree_at pool id

pub outline_found : (pool : List Tree) (r o : RewriteRule) (t : Tree) (m : Bindings) → IsOutline pool r o → NamesParts pool (bound_terms pool m)
    → instance_of pool m o.left ≡ t → instance_of pool m r.left ≡ t
outline_found pool r o t m h names is = sym (h.left (bound_terms pool m) names) ∙ is

-- the variables of the rule are none of those that stand for parts
pub outline_none : (pool : List Tree) (r o : RewriteRule) (t : Tree) → IsOutline pool r o → HasSmallVariables r.left → HasNoMatchOver pool o.left t → IsInstance r.left t → ⊥
outline_none pool r o t h small none (q, is) =
    let s : ℕ → Tree = λ v. named_or pool (q v) (part_id (length pool) v) in
    let names : NamesParts pool s = λ id l. ap (named_or pool (q (65536 + id))) (part_at (length pool) id l) in
    let same : apply s r.left ≡ apply q r.left = same_instance s q r.left (λ v has. ap (named_or pool (q v)) (part_of_small (length pool) v (small v has))) in
    none s names (h.left s names ∙ (same ∙ is))

-- the variables of a rule that was read
pub small_left : (rules lent : List RewriteRule) (k : ℕ) (r : RewriteRule) → lent ≡ rules → k < length lent → r ≡ get_or lent k r → HaveSmallVariables rules → HasSmallVariables r.left
small_left rules lent k r same within is all =
    let P : RewriteRule → Type 0 = λ q. HasSmallVariables q.left × HasSmallVariables q.right in
    let h : P (get_or lent k r) = All-get_or P lent k r within (subst HaveSmallVariables (sym same) all) in
    (subst P (sym is) h).0

-- ---- how they are made

-- the nodes of the rules from one on
pub nodes_next : (rules lent : List RewriteRule) (k : ℕ) (r : RewriteRule) → lent ≡ rules → k < length lent → r ≡ get_or lent k r
    → nodes_of_rules (drop k rules) ≡ size_of r.left + size_of r.right + nodes_of_rules (drop (k + 1) rules)
nodes_next rules lent k r same within is = rw (← same) (ap nodes_of_rules (cell lent k r within is))

-- the outline of a rule, by those of its sides
pub outline_made : (a b : List Tree) → Extends a b → (r o : RewriteRule) → IsOutlineOf a r.left o.left → IsOutlineOf b r.right o.right → IsOutline b r o
outline_made a b extends r o left right = record { left = λ s names. left s (named_before a b extends s names); right = right }

-- one more rule has an outline
pub outline_added : (rules : List RewriteRule) (a b : List Tree) (old new : Outlines) (k : ℕ) (r o : RewriteRule) → AreOutlines rules a old → Extends a b
    → map_of.Updates nat_cmp old.by_rule new.by_rule k (Some o) → slice_get rules k ≡ Some r → IsOutline b r o → AreOutlines rules b new
outline_added rules a b old new k r o before extends updates numbered own = record {
  each = λ j p q there at. elim (ℕ_discrete k j) as (λ _. IsOutline b q p) [
    | yes same ↦
        let written : get nat_cmp new.by_rule j ≡ Some o = ap (get nat_cmp new.by_rule) (sym same) ∙ updates.1 in
        let outline_is : o ≡ p = same_Some o p (sym written ∙ there) in
        let rule_is : r ≡ q = same_Some r q (sym numbered ∙ (ap (slice_get rules) same ∙ at)) in
        subst (λ x. IsOutline b x p) rule_is (subst (IsOutline b r) outline_is own)
    | no other ↦ outline_on a b extends q p (before.each j p q (sym (updates.2 j (at_other k j other)) ∙ there) at)
  ];
}

abbrev value : (ℕ → Tree) → Term → Tree
value s a = apply s (tree a)

-- the terms are outlines of the first k arguments
pub record AreOutlined (start now : List Tree) (args items : List Term) (k : ℕ) : Type 0 where
  pub kept : Extends start now
  pub same : (s : ℕ → Tree) → NamesParts now s → map (value s) items ≡ map (value s) (take k args)
  pub few : length now + nodes_of tree (drop k args) ≤ length start + nodes_of tree args

pub none_outlined : (start : List Tree) (args items : List Term) → items ≡ [] → AreOutlined start start args items 0
none_outlined start args items e = rw e (record { kept = extends_itself start; same = λ s names. refl; few = omega arith })

module _ (start now : List Tree) (args items : List Term) (k : ℕ) (so_far : AreOutlined start now args items k) where
  -- one more argument
  pub one_outlined : (next : List Tree) (arg o : Term) → k < length args → arg ≡ get_or args k arg → Extends now next → IsOutlineOf next (tree arg) (tree o)
      → length next ≤ length now + size_of (tree arg) → AreOutlined start next args (items ++ o ∷ []) (k + 1)
  one_outlined next arg o within is kept outline few = record {
    kept = extends_on start now next so_far.kept kept;
    same = λ s names. one_more_value (value s) (value s) items args k o arg within (so_far.same s (named_before now next kept s names)) (outline s names ∙ ap (value s) is);
    few = let was = so_far.few in omega (arith, was, few, next_nodes tree args k arg within is);
  }

  -- all arguments
  module _ (all : length args ≤ k) (t : Tree) (f : ℕ) (whole : t ≡ app f (forest args)) where
    pub whole_outlined : (next : List Tree) (o : Tree) → Extends now next → IsOutlineOf next (app f (forest items)) o → IsOutlineOf next t o
    whole_outlined next o kept outline s names =
        let same : map (value s) items ≡ map (value s) args = so_far.same s (named_before now next kept s names) ∙ ap (map (value s)) (take_all k args all) in
        let parts : apply_all s (forest items) ≡ apply_all s (forest args) = sym (instances s items) ∙ (ap trees same ∙ instances s args) in
        outline s names ∙ (ap (app f) parts ∙ sym (ap (apply s) whole))

-- the instances of variables for ids
named_terms : (pool : List Tree) (s : ℕ → Tree) → NamesParts pool s → (ids : List ℕ) → All (λ i. i < length pool) ids
    → apply_all s (trees (map part_variable ids)) ≡ trees (map (tree_at pool) ids)
named_terms pool s names [] below = refl
named_terms pool s names (id ∷ ids) below =
    let rest = named_terms pool s names ids (All-tail (λ i. i < length pool) id ids below) in
    cc (rest, names id (All-head (λ i. i < length pool) id ids below))

-- the variable for the id of a symbol over terms that stand for ids
pub part_closed : (old new : List Tree) (f id : ℕ) (items : List Term) (ids : List ℕ) → map part_variable ids ≡ map tree items → All (λ i. i < length old) ids → Extends old new
    → StandsFor new id (app f (trees (map (tree_at old) ids))) → IsOutlineOf new (app f (forest items)) (part_variable id)
part_closed old new f id items ids is below kept stand s names =
    let term : Tree = app f (trees (map (tree_at old) ids)) in
    let own : s (65536 + id) ≡ term = names id (stands_within new id term stand) ∙ stands_at new id term stand in
    let args : apply_all s (forest items) ≡ trees (map (tree_at old) ids) =
    ap (λ xs. apply_all s (trees xs)) (sym is) ∙ named_terms old s (named_before old new kept s names) ids below in
    own ∙ sym (ap (app f) args)
