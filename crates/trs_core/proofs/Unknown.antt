-- The first variable that is not known.
use Rattle.std.proofs.Common.{◌≡◌, ℕ, ◌+◌, ◌<◌, Bool, true, false, not, IsTrue, List, [], ◌∷◌, Option, Some, None, find, cond, length, drop, get_or, suc, refl, sym, subst, ◌⊎◌, inl, inr, ◌∙◌, add-one, drop-cons, is_some}
use Rattle.std.specs.Option.{option_or}
use Rattle.std.proofs.lemmas.List.Folds.{find-append}
use Rattle.trs_defs.specs.Tree.{Tree, Trees, var, app, nil, cons}
use Rattle.trs_defs.specs.Variable.{has_var, some_has_var}
use Rattle.trs_defs.proofs.VariableLaws.{has_var_same, has_var_self, has_var_cons, has_var_first, has_var_rest}
use Rattle.trs_core.specs.declared.terms.Term.{Term}
use Rattle.trs_core.specs.Occurrences.{occurring_in, occurring_in_all}
use Rattle.trs_core.specs.View.{tree, forest}

-- the first one of some arguments, from the first argument
pub next_unknown : (p : ℕ → Bool) (ts : List Term) (i : ℕ) (t : Term) (r whole : Option ℕ) → i < length ts → t ≡ get_or ts i t
    → r ≡ find p (occurring_in (tree t)) → find p (occurring_in_all (forest (drop i ts))) ≡ whole
    → whole ≡ option_or r (find p (occurring_in_all (forest (drop (i + 1) ts))))
next_unknown p ts i t r whole h e is_r is_whole =
    rw (← is_whole, is_r, e, add-one, drop-cons ts i t)
    (find-append p (occurring_in (tree (get_or ts i t))) (occurring_in_all (forest (drop (suc i) ts))))

pub found_unknown : (r o whole : Option ℕ) → whole ≡ option_or r o → IsTrue (is_some r) → r ≡ whole
found_unknown None o whole e h = absurd cc
found_unknown (Some v) o whole e h = sym e

pub not_found : (r o whole : Option ℕ) → whole ≡ option_or r o → is_some r ≡ false → o ≡ whole
not_found None o whole e h = sym e
not_found (Some v) o whole e h = absurd cc

pub same_find : (p q : ℕ → Bool) (xs : List ℕ) → ((v : ℕ) → p v ≡ q v) → find p xs ≡ find q xs
same_find p q [] e = refl
same_find p q (x ∷ xs) e = rw (e x, same_find p q xs e) refl

both_none : (a b : Option ℕ) → option_or a b ≡ None → (a ≡ None) × (b ≡ None)
both_none None b e = (refl, e)
both_none (Some v) b e = absurd cc

known_one : (b : Bool) (n : ℕ) → cond (not b) (Some n) None ≡ None → IsTrue b
known_one true n e = refl
known_one false n e = absurd cc

mutual
  -- where no variable of t is new to l, each is one of l
  pub all_known : (l t : Tree) (v : ℕ) → find (λ n. not (has_var n l)) (occurring_in t) ≡ None → IsTrue (has_var v t) → IsTrue (has_var v l)
  all_known l (var n) v none h = subst (λ m. IsTrue (has_var m l)) (has_var_same v n h) (known_one (has_var n l) n none)
  all_known l (app f ts) v none h = each_known l ts v none h

  each_known : (l : Tree) (ts : Trees) (v : ℕ) → find (λ n. not (has_var n l)) (occurring_in_all ts) ≡ None → IsTrue (some_has_var v ts)
      → IsTrue (has_var v l)
  each_known l nil v none h = absurd cc
  each_known l (cons t ts) v none h =
      let p : ℕ → Bool = λ n. not (has_var n l) in
      let split = both_none (find p (occurring_in t)) (find p (occurring_in_all ts)) (sym (find-append p (occurring_in t) (occurring_in_all ts)) ∙ none) in
      elim (has_var_cons v t ts h) as (λ _. IsTrue (has_var v l)) [
        | inl is ↦ all_known l t v split.0 is
        | inr is ↦ each_known l ts v split.1 is
      ]

extra_one : (b : Bool) (n v : ℕ) → cond (not b) (Some n) None ≡ Some v → (n ≡ v) × (b ≡ false)
extra_one true n v e = absurd cc
extra_one false n v e = (cc, refl)

either_some : (a b : Option ℕ) (v : ℕ) → option_or a b ≡ Some v → (a ≡ Some v) ⊎ (b ≡ Some v)
either_some None b v e = inr e
either_some (Some w) b v e = inl e

mutual
  -- a variable of t that is new to l is one of t and none of l
  pub is_extra : (l t : Tree) (v : ℕ) → find (λ n. not (has_var n l)) (occurring_in t) ≡ Some v → IsTrue (has_var v t) × (has_var v l ≡ false)
  is_extra l (var n) v found =
      let one = extra_one (has_var n l) n v found in
      (subst (λ m. IsTrue (has_var m (var n))) one.0 (has_var_self n), subst (λ m. has_var m l ≡ false) one.0 one.1)
  is_extra l (app f ts) v found = is_extra_all l ts v found

  is_extra_all : (l : Tree) (ts : Trees) (v : ℕ) → find (λ n. not (has_var n l)) (occurring_in_all ts) ≡ Some v
      → IsTrue (some_has_var v ts) × (has_var v l ≡ false)
  is_extra_all l nil v found = absurd cc
  is_extra_all l (cons t ts) v found =
      let p : ℕ → Bool = λ n. not (has_var n l) in
      let split = either_some (find p (occurring_in t)) (find p (occurring_in_all ts)) v
      (sym (find-append p (occurring_in t) (occurring_in_all ts)) ∙ found) in
      elim split as (λ _. IsTrue (some_has_var v (cons t ts)) × (has_var v l ≡ false)) [
        | inl is ↦ let h = is_extra l t v is in (has_var_first v t ts h.0, h.1)
        | inr is ↦ let h = is_extra_all l ts v is in (has_var_rest v t ts h.0, h.1)
      ]
