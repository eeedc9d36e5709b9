-- The steps of matching at an id.
use Rattle.std.proofs.Common.{◌≡◌, ℕ, ◌+◌, ◌<◌, ◌≤◌, Bool, true, false, nat_eq, List, [], ◌∷◌, map, length, drop, get_or, Option, Some, None, IfSome, IfNone, is_some, IsTrue, ◌↔◌, refl, ap, sym, ◌∙◌, arith}
use Rattle.std.proofs.Math.Decide.{ℕ_discrete}
use Rattle.std.proofs.lemmas.Option.{same_Some}
use Rattle.std.proofs.lemmas.List.{drop_all, get_or_default, length-map}
use Rattle.std.proofs.lemmas.Bool.{eqb-true}
use Rattle.trs_defs.specs.Tree.{Tree, var, app, trees, count}
use Rattle.trs_defs.specs.Substitution.{apply, apply_all, IsInstance}
use Rattle.trs_core.specs.declared.terms.Term.{Term}
use Rattle.trs_core.specs.View.{tree, forest}
use Rattle.term_pool.specs.Pooled.{AreDistinct, tree_at}
use Rattle.term_pool.specs.Bindings.{bound, IsBoundTo, HasIds, bound_terms, term_or_self}
use Rattle.term_pool.specs.declared.bindings.Bindings.{Bindings}
use Rattle.term_pool.specs.Matching.{Agrees, Narrows, Refutes, Matches}
use Rattle.trs_defs.proofs.ArgumentLists.{cell, count_apply_all, count_trees}
use Rattle.trs_core.proofs.Comparing.{count_forest}
use Rattle.term_pool.proofs.PoolTrees.{stands}

no_entry : (i : ℕ) → ◌≡◌ {A = Option ℕ} None (Some i) → ⊥
no_entry i e = cc

module _ (pool : List Tree) (old new : Bindings) (v id : ℕ) (update : IsBoundTo v id old new) (none : bound old v ≡ None) where
  get_older : (w i : ℕ) → bound old w ≡ Some i → bound new w ≡ Some i
  get_older w i e = update.1 w (λ same. no_entry i (sym none ∙ (ap (bound old) same ∙ e))) ∙ e

  pub bind_new : Narrows pool (var v) (tree_at pool id) old new
  bind_new = record {
    sound = λ s agrees. (λ w i e. agrees w i (get_older w i e), agrees v id update.0);
    complete = λ s agrees is w i e. elim (ℕ_discrete v w) as (λ _. s w ≡ tree_at pool i) [
      | yes same ↦
          let at : id ≡ i = same_Some id i (sym update.0 ∙ (ap (bound new) same ∙ e)) in
          rw (← same, ← at) is
      | no other ↦ agrees w i (sym (update.1 w other) ∙ e)
    ];
  }

  pub bound_ids : HasIds pool old → id < length pool → HasIds pool new
  bound_ids h l = record {
    within = λ w i e. elim (ℕ_discrete v w) as (λ _. i < length pool) [
      | yes same ↦
          let at : id ≡ i = same_Some id i (sym update.0 ∙ (ap (bound new) same ∙ e)) in
          rw (← at) l
      | no other ↦ h.within w i (sym (update.1 w other) ∙ e)
    ];
  }

number_itself : (a : ℕ) → nat_eq a a ≡ true
number_itself a = grind arith

clash_of : (b : Bool) → b ≡ false → b ≡ true → ⊥
clash_of true f t = absurd cc
clash_of false f t = absurd cc

pub bind_known : (pool : List Tree) (m : Bindings) (v earlier id : ℕ) → AreDistinct pool → HasIds pool m → id < length pool → bound m v ≡ Some earlier
    → Matches pool (var v) (tree_at pool id) m m (nat_eq earlier id)
bind_known pool m v earlier id distinct ids within has = go (nat_eq earlier id) refl
  where
    go : (b : Bool) → nat_eq earlier id ≡ b → Matches pool (var v) (tree_at pool id) m m b
    go true e = let same : earlier ≡ id = eqb-true earlier id e in record {
      sound = λ s agrees. (agrees, agrees v earlier has ∙ ap (tree_at pool) same);
      complete = λ s agrees is. agrees;
    }
    go false e = record {
      none = λ s agrees is.
          let equal : tree_at pool earlier ≡ tree_at pool id = sym (agrees v earlier has) ∙ is in
          let same : earlier ≡ id = distinct.same earlier id (tree_at pool earlier) (stands pool earlier (ids.within v earlier has)) (rw equal (stands pool id within)) in
          clash_of (nat_eq earlier id) e (rw same (number_itself id));
    }

-- what is left to match: these bindings, and these arguments
abbrev pub IsMatch : List Tree → Bindings → List Term → List ℕ → (ℕ → Tree) → Type 0
IsMatch pool m ps ts s = Agrees pool m s × (apply_all s (forest ps) ≡ trees (map (tree_at pool) ts))

-- The same substitutions match what was to be matched at first and what is left.
pub record SameMatches (pool : List Tree) (old : Bindings) (ps : List Term) (ts : List ℕ) (new : Bindings) (qs : List Term) (us : List ℕ) : Type 0 where
  pub onward : (s : ℕ → Tree) → IsMatch pool old ps ts s → IsMatch pool new qs us s
  pub back : (s : ℕ → Tree) → IsMatch pool new qs us s → IsMatch pool old ps ts s

pub all_left : (pool : List Tree) (m : Bindings) (ps : List Term) (ts : List ℕ) → SameMatches pool m ps ts m ps ts
all_left pool m ps ts = record { onward = λ s h. h; back = λ s h. h }

one_less : (pool : List Tree) (old m new : Bindings) (ps : List Term) (ts : List ℕ) (qs : List Term) (us : List ℕ) (p : Term) (t : ℕ)
    → SameMatches pool old ps ts m (p ∷ qs) (t ∷ us) → Narrows pool (tree p) (tree_at pool t) m new → SameMatches pool old ps ts new qs us
one_less pool old m new ps ts qs us p t same narrows = record {
  onward = λ s h. let k = same.onward s h in (narrows.complete s k.0 cc, cc);
  back = λ s h. let k = narrows.sound s h.0 in same.back s (k.0, cc (k.1, h.1));
}

with_cells : (pool : List Tree) (old m : Bindings) (ps : List Term) (ts : List ℕ) (i : ℕ) (p : Term) (t : ℕ)
    → length ps ≡ length ts → i < length ps → p ≡ get_or ps i p → t ≡ get_or ts i t
    → SameMatches pool old ps ts m (drop i ps) (drop i ts) → SameMatches pool old ps ts m (p ∷ drop (i + 1) ps) (t ∷ drop (i + 1) ts)
with_cells pool old m ps ts i p t l h is_p is_t same = rw (← cell ps i p h is_p, ← cell ts i t (omega arith) is_t) same

pub next_match : (pool : List Tree) (old m new : Bindings) (ps : List Term) (ts : List ℕ) (i : ℕ) (p : Term) (t : ℕ)
    → length ps ≡ length ts → i < length ps → p ≡ get_or ps i p → t ≡ get_or ts i t
    → SameMatches pool old ps ts m (drop i ps) (drop i ts) → Narrows pool (tree p) (tree_at pool t) m new → SameMatches pool old ps ts new (drop (i + 1) ps) (drop (i + 1) ts)
next_match pool old m new ps ts i p t l h is_p is_t same narrows =
    one_less pool old m new ps ts (drop (i + 1) ps) (drop (i + 1) ts) p t (with_cells pool old m ps ts i p t l h is_p is_t same) narrows

pub no_next_match : (pool : List Tree) (old m : Bindings) (ps : List Term) (ts : List ℕ) (i f g : ℕ) (p : Term) (t : ℕ)
    → length ps ≡ length ts → i < length ps → p ≡ get_or ps i p → t ≡ get_or ts i t
    → SameMatches pool old ps ts m (drop i ps) (drop i ts) → Refutes pool (tree p) (tree_at pool t) m → Refutes pool (app f (forest ps)) (app g (trees (map (tree_at pool) ts))) old
no_next_match pool old m ps ts i f g p t l h is_p is_t same refutes = record {
  none = λ s agrees is.
      let k = (with_cells pool old m ps ts i p t l h is_p is_t same).onward s (agrees, cc) in
      refutes.none s k.0 cc;
}

pub no_more : (pool : List Tree) (old m : Bindings) (ps : List Term) (ts : List ℕ) (i f g : ℕ)
    → f ≡ g → length ps ≡ length ts → length ps ≤ i → SameMatches pool old ps ts m (drop i ps) (drop i ts) → Narrows pool (app f (forest ps)) (app g (trees (map (tree_at pool) ts))) old m
no_more pool old m ps ts i f g same_symbol l h same =
    let done : SameMatches pool old ps ts m [] [] = rw (drop_all i ps h, drop_all i ts (omega arith)) at same in
    record {
      sound = λ s agrees. let k = done.back s (agrees, refl) in (k.0, cc (k.1));
      complete = λ s agrees is. (done.onward s (agrees, cc)).0;
    }

pub clash : (pool : List Tree) (m : Bindings) (ps : List Term) (ts : List ℕ) (f g : ℕ) → (f ≡ g → length ps ≡ length ts → ⊥) → Refutes pool (app f (forest ps)) (app g (trees (map (tree_at pool) ts))) m
clash pool m ps ts f g differ = record {
  none = λ s agrees is.
      let same : apply_all s (forest ps) ≡ trees (map (tree_at pool) ts) = cc in
      let counts : count (forest ps) ≡ count (trees (map (tree_at pool) ts)) = sym (count_apply_all s (forest ps)) ∙ ap count same in
      differ (cc) (sym (count_forest ps) ∙ (counts ∙ (count_trees (map (tree_at pool) ts) ∙ length-map ts (tree_at pool))));
}

pub no_application : (pool : List Tree) (m : Bindings) (f n : ℕ) (ps : List Term) → Refutes pool (app f (forest ps)) (var n) m
no_application pool m f n ps = record { none = λ s agrees is. cc }

-- the bindings that were found take the pattern to the term
pub agrees_bound : (pool : List Tree) (m : Bindings) → Agrees pool m (bound_terms pool m)
agrees_bound pool m v id e = ap (term_or_self pool v) e

pub found_one : (pool : List Tree) (p t : Tree) (m new : Bindings) → Narrows pool p t m new → apply (bound_terms pool new) p ≡ t
found_one pool p t m new narrows = (narrows.sound (bound_terms pool new) (agrees_bound pool new)).1

pub found_none : (pool : List Tree) (p t : Tree) (m : Bindings) → ((v : ℕ) → bound m v ≡ None) → Refutes pool p t m → IsInstance p t → ⊥
found_none pool p t m is refutes h = refutes.none h.0 (λ v id e. absurd (no_entry id (sym (is v) ∙ e))) h.1

pub read_again : (xs : List ℕ) (i : ℕ) → i < length xs → get_or xs i 0 ≡ get_or xs i (get_or xs i 0)
read_again xs i h = get_or_default xs i 0 (get_or xs i 0) h

-- whether a match was found
pub instance_tested : (pool : List Tree) (left t : Tree) (o : Option (Bindings)) (b : Bool) → IfSome o (λ m. apply (bound_terms pool m) left ≡ t) → IfNone o (IsInstance left t → ⊥)
    → b ≡ is_some o → IsTrue b ↔ IsInstance left t
instance_tested pool left t None b found none is = (λ h. absurd cc, λ inst. absurd (none inst))
instance_tested pool left t (Some m) b found none is = (λ h. (bound_terms pool m, found), λ inst. is)
