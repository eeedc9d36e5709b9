-- Terms whose variables have the numbers of names: instances, other subterms, and what renaming gives.
use Rattle.std.specs.Option.{option_and_then}
use Rattle.std.proofs.Common.{◌≡◌, ℕ, ◌+◌, ◌<◌, zero, suc, inl, inr, List, [], ◌∷◌, ◌++◌, length, Option, Some, None, IsTrue, refl, sym, ◌∙◌, ap, subst, slice_get, get_or, arith, append-nil, length-append}
use Rattle.std.proofs.lemmas.Option.{same_Some, slice_get_within, slice_get-get_or, get_or_from_slice_get, option_and_then_some}
use Rattle.trs_defs.specs.Tree.{Tree, Trees, var, app, nil, cons, items}
use Rattle.trs_defs.specs.Variable.{has_var, is_listed, with_variables, variables_of}
use Rattle.trs_defs.specs.Substitution.{apply, apply_all}
use Rattle.trs_defs.specs.Position.{subterm_at, replaced_at}
use Rattle.trs_defs.specs.Renaming.{shifted}
use Rattle.trs_defs.specs.System.{RewriteRule, System, IsSystem}
use Rattle.trs_defs.proofs.VariableLaws.{has_var_same, has_var_self}
use Rattle.trs_defs.proofs.Substitutions.{apply_apply, same_instance}
use Rattle.trs_defs.proofs.NamedTerms.{unchanged}
use Rattle.trs_defs.proofs.Positions.{none_there}
use Rattle.trs_defs.proofs.InstancePlaces.{replaced_image}
use Rattle.trs_defs.proofs.ListItems.{kept_item}
use Rattle.confluence_theory.proofs.Apart.{part_variable}
use Rattle.term_pool.specs.Pooled.{tree_at}
use Rattle.term_pool.specs.Placing.{HasPut}
use Rattle.trs_unify.specs.Renamed.{old_name, first_numbers, IsRenamed}
use Rattle.trs_unify.proofs.ListedVariables.{listed_at, listed_get, listed_variable, nothing_new}
use Rattle.trs_unify.proofs.NewNames.{length_first}
use Rattle.crit_pairs.specs.Apart.{renamed_apart}
use Rattle.crit_pairs.specs.InOrder.{in_order}
use Rattle.crit_pairs.specs.Sides.{IsDistinct, AreRenumbered}
use Rattle.crit_pairs.specs.Numbered.{AreNamed, IsNumbered, place, placed}
use Rattle.crit_pairs.proofs.InstanceVariables.{into_instance, of_instance, replaced_variable}
use Rattle.crit_pairs.proofs.Renumbering.{first_count, none_distinct}
use Rattle.crit_pairs.proofs.TermsInOrder.{place_listed, in_order_renamed, variables_distinct}

-- the variable that a number stands for, as a term
abbrev named : List ℕ → ℕ → Tree
named names v = var (old_name names v)

-- ---- instances, and other subterms

pub numbered_instance : (names : List ℕ) (σ τ : ℕ → Tree) (r : Tree) → ((v : ℕ) → IsTrue (has_var v r) → IsNumbered names (σ v) (τ v)) → IsNumbered names (apply σ r) (apply τ r)
numbered_instance names σ τ r h = record {
  back = apply_apply (named names) τ r ∙ same_instance (λ v. apply (named names) (τ v)) σ r (λ v k. (h v k).back);
  inside = λ x k. let (v, there, at) = of_instance τ x r k in (h v there).inside x at;
}

pub numbered_replaced : (names p : List ℕ) (t t2 b b2 u u2 : Tree) → IsNumbered names t t2 → IsNumbered names b b2 → replaced_at p t b ≡ Some u → replaced_at p t2 b2 ≡ Some u2
    → IsNumbered names u u2
numbered_replaced names p t t2 b b2 u u2 whole new put put2 = record {
  back =
      let image : replaced_at p (apply (named names) t2) (apply (named names) b2) ≡ Some (apply (named names) u2) = replaced_image (named names) p t2 b2 u2 put2 in
      let same : replaced_at p t b ≡ Some (apply (named names) u2) = rw (whole.back, new.back) at image in
      same_Some (apply (named names) u2) u (sym same ∙ put);
  inside = λ v k. elim (replaced_variable p t2 b2 u2 v put2 k) as (λ _. v < length names) [
    | inl h ↦ whole.inside v h
    | inr h ↦ new.inside v h
  ];
}

module _ (f : ℕ → ℕ) where
  item_back : (ts : Trees) (i : ℕ) (a : Tree) → slice_get (items (apply_all (λ v. var (f v)) ts)) i ≡ Some a → (b : Tree) × (slice_get (items ts) i ≡ Some b) × (apply (λ v. var (f v)) b ≡ a)
  item_back nil i a e = absurd cc
  item_back (cons t ts) zero a e = (t, refl, same_Some (apply (λ v. var (f v)) t) a e)
  item_back (cons t ts) (suc i) a e = item_back ts i a e

  -- new numbers for variables leave the positions
  place_back : (p : List ℕ) (t part : Tree) → subterm_at p (apply (λ v. var (f v)) t) ≡ Some part → (old : Tree) × (subterm_at p t ≡ Some old)
  place_back [] t part e = (t, refl)
  place_back (place ∷ p) (var n) part e = absurd cc
  place_back (zero ∷ p) (app g ts) part e = absurd cc
  place_back (suc i ∷ p) (app g ts) part e =
      let found : (a : Tree) × (slice_get (items (apply_all (λ v. var (f v)) ts)) i ≡ Some a) × (subterm_at p a ≡ Some part) =
      option_and_then_some (subterm_at p) (slice_get (items (apply_all (λ v. var (f v)) ts)) i) part e (λ a at below. (a, at, below)) in
      let (a, at, below) = found in
      let (b, there, image) = item_back ts i a at in
      let (old, is) = place_back p b part (rw image below) in
      (old, ap (option_and_then (subterm_at p)) there ∙ is)

-- what is put where a subterm is
put_at : (p : List ℕ) (t old new : Tree) → subterm_at p t ≡ Some old → (u : Tree) × (replaced_at p t new ≡ Some u)
put_at p t old new there = go (replaced_at p t new) refl
  where
    go : (o : Option Tree) → replaced_at p t new ≡ o → (u : Tree) × (replaced_at p t new ≡ Some u)
    go None e = let none : Some old ≡ None = sym there ∙ none_there p t new e in absurd cc
    go (Some u) e = (u, e)

-- the position of a term is one of the term with numbers
pub numbered_place : (names p : List ℕ) (t u part : Tree) → IsNumbered names t u → subterm_at p t ≡ Some part → (old : Tree) × (subterm_at p u ≡ Some old)
numbered_place names p t u part numbered there = place_back (old_name names) p u part (rw numbered.back there)

pub can_be_put : (names p : List ℕ) (t part : Tree) (pool : List Tree) (id by : ℕ) → IsNumbered names t (tree_at pool id) → subterm_at p t ≡ Some part → HasPut pool p id by
can_be_put names p t part pool id by numbered there =
    let (old, at) = numbered_place names p t (tree_at pool id) part numbered there in
    let (result, put) = put_at p (tree_at pool id) old (tree_at pool by) at in
    record { result = result; put = put }

-- ---- what renaming gives

first_listed : (n v : ℕ) → v < n → IsTrue (is_listed v (first_numbers n))
first_listed n v h =
    let within : v < length (first_numbers n) = omega (arith, h, length_first n) in
    let at : slice_get (first_numbers n) v ≡ Some (get_or (first_numbers n) v 0) = slice_get-get_or (first_numbers n) v 0 within in
    let is : get_or (first_numbers n) v 0 ≡ v = omega (arith, first_count n v (get_or (first_numbers n) v 0) at) in
    listed_get (first_numbers n) v v (at ∙ ap (λ z. Some z) is)

no_more : {X : Type 0} (xs more : List X) → length (xs ++ more) ≡ length xs → more ≡ []
no_more xs [] e = refl
no_more xs (y ∷ more) e = absurd (omega (arith, e, length-append xs (y ∷ more)))

-- the variables of what is renamed have the first numbers, where those of the term are named
renamed_inside : (old new : List ℕ) (t u : Tree) → IsDistinct new → IsRenamed old new t u → AreNamed old t → (v : ℕ) → IsTrue (has_var v u) → v < length old
renamed_inside old new t u distinct r are v h =
    let name : ℕ = old_name new v in
    let occurs : IsTrue (has_var name t) = subst (λ z. IsTrue (has_var name z)) r.back (into_instance (named new) name u v h (has_var_self name)) in
    let (i, at) = listed_at name old (are name occurs) in
    let there : slice_get new i ≡ Some name = subst (λ z. slice_get z i ≡ Some name) (sym r.grown) (kept_item old r.more i name at) in
    let same : v ≡ i = distinct v i name (slice_get-get_or new v 0 (r.inside v h)) there in
    omega (arith, same, slice_get_within old i name at)

pub renamed_known : (old new : List ℕ) (t u : Tree) → IsDistinct new → IsRenamed old new t u → AreNamed old t → (new ≡ old) × IsNumbered old t u
renamed_known old new t u distinct r are =
    let inside : (v : ℕ) → IsTrue (has_var v u) → v < length old = renamed_inside old new t u distinct r are in
    let first : with_variables (first_numbers (length old)) u ≡ first_numbers (length old) = nothing_new (first_numbers (length old)) u (λ v h. first_listed (length old) v (inside v h)) in
    let count : length new ≡ length old = omega (arith, length_first (length old), length_first (length new), ap length (sym r.counted ∙ first)) in
    let none : r.more ≡ [] = no_more old r.more (sym (ap length r.grown) ∙ count) in
    let same : new ≡ old = r.grown ∙ (ap (λ more. old ++ more) none ∙ append-nil old) in
    (same, record { back = subst (λ names. apply (named names) u ≡ t) same r.back; inside = inside })

pub numbered_renamed : (names : List ℕ) (t u : Tree) → IsNumbered names t u → IsRenamed names names t u
numbered_renamed names t u numbered = record {
  more = [];
  grown = sym (append-nil names);
  back = numbered.back;
  inside = numbered.inside;
  counted = nothing_new (first_numbers (length names)) u (λ v h. first_listed (length names) v (numbered.inside v h));
}

-- results with the numbers of the top's variables
pub numbered_beside : (top left right l r : Tree) → IsNumbered (variables_of top) left l → IsNumbered (variables_of top) right r → AreRenumbered top left right (in_order top) l r
numbered_beside top left right l r first second = record {
  first = variables_of top;
  second = variables_of top;
  third = variables_of top;
  top_renamed = in_order_renamed top;
  left_renamed = numbered_renamed (variables_of top) left l first;
  right_renamed = numbered_renamed (variables_of top) right r second;
  distinct = variables_distinct top [] none_distinct;
}

-- ---- the term with numbers is the only one

name_at : (names : List ℕ) (v : ℕ) → IsTrue (is_listed v names) → slice_get names (place names v) ≡ Some v
name_at names v h = subst (λ xs. slice_get names (place xs v) ≡ Some v) (append-nil names) (place_listed names [] v h)

pub numbered_by : (names : List ℕ) (t : Tree) → AreNamed names t → IsNumbered names t (placed names t)
numbered_by names t are = record {
  back =
      apply_apply (named names) (λ v. var (place names v)) t
      ∙ (same_instance (λ v. named names (place names v)) (λ v. var v) t (λ v h. ap var (get_or_from_slice_get names (place names v) v 0 (name_at names v (are v h))))
      ∙ unchanged t);
  inside = λ x h.
      let (v, there, at) = of_instance (λ v. var (place names v)) x t h in
      let same : place names v ≡ x = has_var_same x (place names v) at in
      omega (arith, same, slice_get_within names (place names v) v (name_at names v (are v there)));
}

pub numbered_only : (names : List ℕ) (t u : Tree) → IsDistinct names → IsNumbered names t u → u ≡ placed names t
numbered_only names t u distinct numbered =
    let own : (v : ℕ) → IsTrue (has_var v u) → var v ≡ var (place names (old_name names v)) =
    λ v h.
    let at : slice_get names v ≡ Some (old_name names v) = slice_get-get_or names v 0 (numbered.inside v h) in
    let there : slice_get names (place names (old_name names v)) ≡ Some (old_name names v) = name_at names (old_name names v) (listed_get names v (old_name names v) at) in
    ap var (distinct v (place names (old_name names v)) (old_name names v) at there) in
    sym (unchanged u)
    ∙ (same_instance (λ v. var v) (λ v. var (place names (old_name names v))) u own
    ∙ (sym (apply_apply (λ v. var (place names v)) (named names) u) ∙ ap (placed names) numbered.back))

-- ---- terms whose variables are named

pub named_after : (known names : List ℕ) (t : Tree) → names ≡ with_variables known t → AreNamed names t
named_after known names t is v h = subst (λ z. IsTrue (is_listed v z)) (sym is) (listed_variable v t known h)

-- where a term has variables of another one alone, so have the instances
pub named_instance : (names : List ℕ) (σ : ℕ → Tree) (l r : Tree) → ((v : ℕ) → IsTrue (has_var v r) → IsTrue (has_var v l)) → AreNamed names (apply σ l) → AreNamed names (apply σ r)
named_instance names σ l r variables are x h =
    let (v, there, at) = of_instance σ x r h in
    are x (into_instance σ x l v (variables v there) at)

-- the part of the outer left side is that of the inner left side too, where both are instantiated
pub named_part : (names : List ℕ) (σ : ℕ → Tree) (p : List ℕ) (t part left : Tree) → subterm_at p t ≡ Some part → apply σ part ≡ apply σ left → AreNamed names (apply σ t)
    → AreNamed names (apply σ left)
named_part names σ p t part left there same are =
    let inside : AreNamed names (apply σ part) = named_instance names σ t part (λ v h. part_variable p t part v there h) are in
    λ x h. inside x (subst (λ z. IsTrue (has_var x z)) (sym same) h)

-- the rules of a system
module _ (system : System) (valid : IsSystem system) where
  pub right_named : (names : List ℕ) (σ : ℕ → Tree) (j : ℕ) (rule : RewriteRule) → slice_get system.rules j ≡ Some rule → AreNamed names (apply σ rule.left) → AreNamed names (apply σ rule.right)
  right_named names σ j rule numbered are = named_instance names σ rule.left rule.right (valid.each j rule numbered).variables are

  pub apart_right_named : (names : List ℕ) (σ : ℕ → Tree) (i : ℕ) (rule : RewriteRule) → slice_get system.rules i ≡ Some rule → AreNamed names (apply σ (renamed_apart rule).left)
      → AreNamed names (apply σ (renamed_apart rule).right)
  apart_right_named names σ i rule numbered are = named_instance names σ (shifted 65536 rule.left) (shifted 65536 rule.right) apart are
    where
      apart : (x : ℕ) → IsTrue (has_var x (shifted 65536 rule.right)) → IsTrue (has_var x (shifted 65536 rule.left))
      apart x h =
          let (v, there, at) = of_instance (λ v. var (65536 + v)) x rule.right h in
          into_instance (λ v. var (65536 + v)) x rule.left v ((valid.each i rule numbered).variables v there) at
