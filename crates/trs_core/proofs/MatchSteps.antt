-- The steps of matching.
use Rattle.std.proofs.Common.{◌≡◌, ℕ, ◌+◌, ◌<◌, ◌≤◌, inl, inr, Bool, true, false, IsTrue, ◌↔◌, List, [], ◌∷◌, length, drop, get_or, Some, None, refl, ap, sym, ◌∙◌, arith, nat_cmp}
use Rattle.std.specs.FinMap.{FinMap, insert, get, empty}
use Rattle.std.proofs.lemmas.List.{drop_all}
use Rattle.trs_defs.specs.Tree.{Tree, var, app, count}
use Rattle.trs_defs.specs.Substitution.{apply, apply_all, Agrees, bound, IsInstance}
use Rattle.trs_core.specs.declared.terms.Term.{Term}
use Rattle.trs_core.specs.View.{tree, forest}
use Rattle.trs_core.specs.Matching.{Narrows, Refutes, Matches}
use Rattle.trs_defs.proofs.ArgumentLists.{cell, count_apply_all}
use Rattle.trs_defs.proofs.BindingLaws.{get_insert_same, get_insert_cases, get_insert_older, agrees_empty, agrees_bound}
use Rattle.trs_core.proofs.Comparing.{count_forest}

bind_added : (m : FinMap nat_cmp Tree) (v : ℕ) (t : Tree) → get m v ≡ None → Narrows (var v) t m (insert m v t)
bind_added m v t none = record {
  sound = λ s agrees. (λ w u e. agrees w u (get_insert_older m v w t u none e), agrees v t (get_insert_same m v t));
  complete = λ s agrees is w u e. elim (get_insert_cases m v w t u e) as (λ _. s w ≡ u) [
    | inl h ↦ cc
    | inr h ↦ agrees w u h
  ];
}

pub bind_new : (m new : FinMap nat_cmp Tree) (v : ℕ) (t u : Tree) → get m v ≡ None → new ≡ insert m v u → u ≡ t → Narrows (var v) t m new
bind_new m new v t u none is same = rw (is, same) (bind_added m v t none)

pub bind_known : (m : FinMap nat_cmp Tree) (v : ℕ) (e t : Tree) (b : Bool) → get m v ≡ Some e → IsTrue b ↔ (e ≡ t) → Matches (var v) t m m b
bind_known m v e t true has same = record {
  sound = λ s agrees. (agrees, agrees v e has ∙ same.0 refl);
  complete = λ s agrees is. agrees;
}
bind_known m v e t false has same = record { none = λ s agrees is. let h = same.1 (sym (agrees v e has) ∙ is) in cc }

-- what is left to match: these bindings, and these arguments
abbrev pub IsMatch : FinMap nat_cmp Tree → List Term → List Term → (ℕ → Tree) → Type 0
IsMatch m ps ts s = Agrees m s × (apply_all s (forest ps) ≡ forest ts)

-- The same substitutions match what was to be matched at first and what is left.
pub record SameMatches (old : FinMap nat_cmp Tree) (ps ts : List Term) (new : FinMap nat_cmp Tree) (qs us : List Term) : Type 0 where
  pub onward : (s : ℕ → Tree) → IsMatch old ps ts s → IsMatch new qs us s
  pub back : (s : ℕ → Tree) → IsMatch new qs us s → IsMatch old ps ts s

pub all_left : (m : FinMap nat_cmp Tree) (ps ts : List Term) → SameMatches m ps ts m ps ts
all_left m ps ts = record { onward = λ s h. h; back = λ s h. h }

one_less : (old m new : FinMap nat_cmp Tree) (ps ts qs us : List Term) (p t : Term)
    → SameMatches old ps ts m (p ∷ qs) (t ∷ us) → Narrows (tree p) (tree t) m new → SameMatches old ps ts new qs us
one_less old m new ps ts qs us p t same narrows = record {
  onward = λ s h. let k = same.onward s h in (narrows.complete s k.0 cc, cc);
  back = λ s h. let k = narrows.sound s h.0 in same.back s (k.0, cc (k.1, h.1));
}

with_cells : (old m : FinMap nat_cmp Tree) (ps ts : List Term) (i : ℕ) (p t : Term)
    → length ps ≡ length ts → i < length ps → p ≡ get_or ps i p → t ≡ get_or ts i t
    → SameMatches old ps ts m (drop i ps) (drop i ts) → SameMatches old ps ts m (p ∷ drop (i + 1) ps) (t ∷ drop (i + 1) ts)
with_cells old m ps ts i p t l h is_p is_t same = rw (← cell ps i p h is_p, ← cell ts i t (omega arith) is_t) same

pub next_match : (old m new : FinMap nat_cmp Tree) (ps ts : List Term) (i : ℕ) (p t : Term)
    → length ps ≡ length ts → i < length ps → p ≡ get_or ps i p → t ≡ get_or ts i t
    → SameMatches old ps ts m (drop i ps) (drop i ts) → Narrows (tree p) (tree t) m new → SameMatches old ps ts new (drop (i + 1) ps) (drop (i + 1) ts)
next_match old m new ps ts i p t l h is_p is_t same narrows =
    one_less old m new ps ts (drop (i + 1) ps) (drop (i + 1) ts) p t (with_cells old m ps ts i p t l h is_p is_t same) narrows

pub no_next_match : (old m : FinMap nat_cmp Tree) (ps ts : List Term) (i f g : ℕ) (p t : Term)
    → length ps ≡ length ts → i < length ps → p ≡ get_or ps i p → t ≡ get_or ts i t
    → SameMatches old ps ts m (drop i ps) (drop i ts) → Refutes (tree p) (tree t) m → Refutes (app f (forest ps)) (app g (forest ts)) old
no_next_match old m ps ts i f g p t l h is_p is_t same refutes = record {
  none = λ s agrees is.
      let k = (with_cells old m ps ts i p t l h is_p is_t same).onward s (agrees, cc) in
      refutes.none s k.0 cc;
}

pub no_more : (old m : FinMap nat_cmp Tree) (ps ts : List Term) (i f g : ℕ)
    → f ≡ g → length ps ≡ length ts → length ps ≤ i → SameMatches old ps ts m (drop i ps) (drop i ts) → Narrows (app f (forest ps)) (app g (forest ts)) old m
no_more old m ps ts i f g same_symbol l h same =
    let done : SameMatches old ps ts m [] [] = rw (drop_all i ps h, drop_all i ts (omega arith)) at same in
    record {
      sound = λ s agrees. let k = done.back s (agrees, refl) in (k.0, cc (k.1));
      complete = λ s agrees is. (done.onward s (agrees, cc)).0;
    }

pub clash : (m : FinMap nat_cmp Tree) (ps ts : List Term) (f g : ℕ) → (f ≡ g → length ps ≡ length ts → ⊥) → Refutes (app f (forest ps)) (app g (forest ts)) m
clash m ps ts f g differ = record {
  none = λ s agrees is.
      let same : apply_all s (forest ps) ≡ forest ts = cc in
      let counts : count (forest ps) ≡ count (forest ts) = sym (count_apply_all s (forest ps)) ∙ ap count same in
      differ (cc) (sym (count_forest ps) ∙ (counts ∙ count_forest ts));
}

pub no_application : (m : FinMap nat_cmp Tree) (f n : ℕ) (ps : List Term) → Refutes (app f (forest ps)) (var n) m
no_application m f n ps = record { none = λ s agrees is. cc }

pub found_one : (p t : Tree) (m new : FinMap nat_cmp Tree) → Narrows p t m new → apply (bound new) p ≡ t
found_one p t m new narrows = (narrows.sound (bound new) (agrees_bound new)).1

pub found_none : (p t : Tree) (m : FinMap nat_cmp Tree) → m ≡ empty → Refutes p t m → IsInstance p t → ⊥
found_none p t m is refutes h = refutes.none h.0 (agrees_empty m h.0 is) h.1
