-- Terms whose variables are numbered in order of first occurrence.
use Rattle.std.proofs.Common.{◌≡◌, ℕ, suc, Bool, true, false, List, [], ◌∷◌, ◌++◌, length, Some, refl, ap, sym, ◌∙◌, subst, arith, slice_get, append_assoc, append-nil}
use Rattle.std.specs.Prelude.{◌==◌}
use Rattle.std.proofs.lemmas.Bool.{or_parts}
use Rattle.trs_defs.specs.Tree.{Tree, Trees, var, app, nil, cons}
use Rattle.trs_defs.specs.Variable.{is_listed, with_variables, with_variables_of_all, variables_of}
use Rattle.trs_defs.specs.Substitution.{apply_all}
use Rattle.trs_defs.proofs.VariableLaws.{has_var_self}
use Rattle.trs_unify.specs.Renamed.{IsRenamed, AreRenamed}
use Rattle.trs_unify.proofs.NewNames.{known_at, new_at, none_renamed, one_renamed, symbol_renamed}
use Rattle.trs_unify.proofs.ListedVariables.{listed_get}
use Rattle.term_pool.specs.LeftSides.{IsGround}
use Rattle.crit_pairs.specs.InOrder.{in_order}
use Rattle.crit_pairs.specs.Numbered.{place, placed}
use Rattle.crit_pairs.specs.Sides.{IsDistinct, AreRenumbered}
use Rattle.crit_pairs.proofs.Renumbering.{none_distinct, distinct_more, not_both, ground_renamed}

place_here : (n v : ℕ) (ns : List ℕ) → (n == v) ≡ true → place (n ∷ ns) v ≡ 0
place_here n v ns e = rw e refl

place_later : (n v : ℕ) (ns : List ℕ) → (n == v) ≡ false → place (n ∷ ns) v ≡ suc (place ns v)
place_later n v ns e = rw e (omega arith)

listed_by : (n v : ℕ) (ns more : List ℕ) (b : Bool) → (n == v) ≡ b → is_listed v (n ∷ ns) ≡ true
    → (is_listed v ns ≡ true → slice_get ns (place (ns ++ more) v) ≡ Some v) → slice_get (n ∷ ns) (place (n ∷ (ns ++ more)) v) ≡ Some v
listed_by n v ns more true e h rest =
    let same : n ≡ v = grind arith in
    subst (λ i. slice_get (n ∷ ns) i ≡ Some v) (sym (place_here n v (ns ++ more) e)) (ap (λ z. Some z) same)
listed_by n v ns more false e h rest = subst (λ i. slice_get (n ∷ ns) i ≡ Some v) (sym (place_later n v (ns ++ more) e)) (rest (rw e at h))

pub place_listed : (known more : List ℕ) (v : ℕ) → is_listed v known ≡ true → slice_get known (place (known ++ more) v) ≡ Some v
place_listed [] more v h = absurd cc
place_listed (n ∷ ns) more v h = listed_by n v ns more (n == v) refl h (place_listed ns more v)

place_new : (known more : List ℕ) (v : ℕ) → is_listed v known ≡ false → place (known ++ v ∷ more) v ≡ length known
place_new [] more v h = place_here v v more (has_var_self v)
place_new (n ∷ ns) more v h =
    let parts = or_parts (n == v) (is_listed v ns) h in
    place_later n v (ns ++ v ∷ more) parts.0 ∙ ap suc (place_new ns more v parts.1)

variable_placed : (v : ℕ) (known more : List ℕ) (b : Bool) → is_listed v known ≡ b
    → IsRenamed known (with_variables known (var v)) (var v) (placed (with_variables known (var v) ++ more) (var v))
variable_placed v known more true h =
    let same : with_variables known (var v) ≡ known = rw h refl in
    subst (λ names. IsRenamed known names (var v) (placed (names ++ more) (var v))) (sym same) (known_at known v (place (known ++ more) v) (place_listed known more v h))
variable_placed v known more false h =
    let longer : with_variables known (var v) ≡ known ++ v ∷ [] = rw h refl in
    let last : place ((known ++ v ∷ []) ++ more) v ≡ length known = ap (λ names. place names v) (append_assoc known (v ∷ []) more) ∙ place_new known more v h in
    subst (λ names. IsRenamed known names (var v) (placed (names ++ more) (var v))) (sym longer)
    (subst (λ i. IsRenamed known (known ++ v ∷ []) (var v) (var i)) (sym last) (new_at known v))

mutual
  term_placed : (t : Tree) (known more : List ℕ) → IsRenamed known (with_variables known t) t (placed (with_variables known t ++ more) t)
  term_placed (var v) known more = variable_placed v known more (is_listed v known) refl
  term_placed (app f ts) known more =
      symbol_renamed known (with_variables_of_all known ts) f ts (apply_all (λ v. var (place (with_variables_of_all known ts ++ more) v)) ts) (terms_placed ts known more)

  terms_placed : (ts : Trees) (known more : List ℕ)
      → AreRenamed known (with_variables_of_all known ts) ts (apply_all (λ v. var (place (with_variables_of_all known ts ++ more) v)) ts)
  terms_placed nil known more = none_renamed known
  terms_placed (cons t ts) known more =
      let mid = with_variables known t in
      let all = with_variables_of_all mid ts in
      let rest = terms_placed ts mid more in
      let same : all ++ more ≡ mid ++ (rest.more ++ more) = ap (λ xs. xs ++ more) rest.grown ∙ append_assoc mid rest.more more in
      let first : IsRenamed known mid t (placed (all ++ more) t) = subst (λ names. IsRenamed known mid t (placed names t)) (sym same) (term_placed t known (rest.more ++ more)) in
      one_renamed known mid all t (placed (all ++ more) t) ts (apply_all (λ v. var (place (all ++ more) v)) ts) first rest

pub in_order_renamed : (t : Tree) → IsRenamed [] (variables_of t) t (in_order t)
in_order_renamed t = subst (λ names. IsRenamed [] (variables_of t) t (placed names t)) (append-nil (variables_of t)) (term_placed t [] [])

one_more_distinct : (v : ℕ) (known : List ℕ) (b : Bool) → is_listed v known ≡ b → IsDistinct known → IsDistinct (with_variables known (var v))
one_more_distinct v known true h distinct = rw h distinct
one_more_distinct v known false h distinct = rw h (distinct_more known v distinct (λ i e. not_both (is_listed v known) h (listed_get known i v e)))

-- the variables of a term are listed once
mutual
  pub variables_distinct : (t : Tree) (known : List ℕ) → IsDistinct known → IsDistinct (with_variables known t)
  variables_distinct (var v) known distinct = one_more_distinct v known (is_listed v known) refl distinct
  variables_distinct (app f ts) known distinct = all_distinct ts known distinct

  all_distinct : (ts : Trees) (known : List ℕ) → IsDistinct known → IsDistinct (with_variables_of_all known ts)
  all_distinct nil known distinct = distinct
  all_distinct (cons t ts) known distinct = all_distinct ts (with_variables known t) (variables_distinct t known distinct)

-- beside results with no variable
pub in_order_beside : (t left right : Tree) → IsGround left → IsGround right → AreRenumbered t left right (in_order t) left right
in_order_beside t left right left_ground right_ground = record {
  first = variables_of t;
  second = variables_of t;
  third = variables_of t;
  top_renamed = in_order_renamed t;
  left_renamed = ground_renamed (variables_of t) left left_ground;
  right_renamed = ground_renamed (variables_of t) right right_ground;
  distinct = variables_distinct t [] none_distinct;
}
