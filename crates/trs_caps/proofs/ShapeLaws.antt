-- Left sides with no variable that a cap does not meet, by its shape.
use Rattle.std.proofs.Common.{◌≡◌, ◌≢◌, ◌<◌, ◌≤◌, ◌-◌, ◌^◌, ◌||◌, ◌+◌, ℕ, Bool, true, false, List, [], ◌∷◌, ◌++◌, Some, min, length, drop, get_or, slice_get, length-append, inl, inr, refl, ap, sym, ◌∙◌, subst, arith}
use Rattle.std.proofs.lemmas.List.{drop_all}
use Rattle.std.proofs.lemmas.Option.{same_Some}
use Rattle.trs_defs.specs.Tree.{Tree, Trees, app}
use Rattle.trs_defs.specs.Size.{size_of, size_of_all}
use Rattle.trs_defs.specs.Variable.{has_var, some_has_var}
use Rattle.trs_defs.specs.System.{RewriteRule}
use Rattle.trs_defs.proofs.ArgumentLists.{cell}
use Rattle.trs_defs.proofs.ListItems.{item_of_more}
use Rattle.trs_core.specs.declared.terms.Term.{Term}
use Rattle.trs_core.specs.View.{tree, forest}
use Rattle.term_pool.specs.LeftSides.{IsGround}
use Rattle.term_pool.proofs.KnownLaws.{some_node}
use Rattle.term_pool.proofs.LeftSideLaws.{ground_stays}
use Rattle.trs_caps.specs.HoledTree.{HoledTree, HoledTrees, Fits, EachFits, holed_size, holed_sizes, fits_hole, fits_own, fits_symbol, fits_none, fits_more}
use Rattle.trs_caps.specs.HoledCap.{MeetsLeft}
use Rattle.trs_caps.specs.Shapes.{has_hole, some_has_hole, IsShape, AreGroundSizes}
use Rattle.trs_caps.specs.declared.shapes.Shape.{Shape}

mutual
  -- a cap has at most as many nodes as what fits it
  pub fits_size : {c : HoledTree} {t : Tree} → Fits c t → holed_size c ≤ size_of t
  fits_size (fits_hole {t = t}) = some_node t
  fits_size fits_own = omega arith
  fits_size (fits_symbol each) = omega (arith, fits_sizes each)

  pub fits_sizes : {cs : HoledTrees} {ts : Trees} → EachFits cs ts → holed_sizes cs ≤ size_of_all ts
  fits_sizes fits_none = omega arith
  fits_sizes (fits_more first rest) = omega (arith, fits_size first, fits_sizes rest)

neither : (a b : Bool) → (a || b) ≡ false → (a ≡ false) × (b ≡ false)
neither true b e = absurd cc
neither false b e = (refl, e)

mutual
  -- with no hole it has as many
  pub closed_size : {c : HoledTree} {t : Tree} → Fits c t → has_hole c ≡ false → size_of t ≡ holed_size c
  closed_size fits_hole e = absurd cc
  closed_size fits_own e = refl
  closed_size (fits_symbol each) e = omega (arith, closed_sizes each e)

  pub closed_sizes : {cs : HoledTrees} {ts : Trees} → EachFits cs ts → some_has_hole cs ≡ false → size_of_all ts ≡ holed_sizes cs
  closed_sizes fits_none e = refl
  closed_sizes (fits_more {c = c} {cs = cs} first rest) e =
      let both = neither (has_hole c) (some_has_hole cs) e in
      omega (arith, closed_size first both.0, closed_sizes rest both.1)

module _ (c : HoledTree) (l : Tree) (s : Shape) (size : ℕ) (shape : IsShape c s) (ground : IsGround l) (is : size ≡ min (size_of l) (2 ^ 32 - 1)) where
  fits_left : MeetsLeft c l → Fits c l
  fits_left m = subst (Fits c) (ground_stays m.0 l ground) m.1

  pub too_many_nodes : size < s.nodes → MeetsLeft c l → ⊥
  too_many_nodes more m = let most = fits_size (fits_left m) in absurd (omega (arith, shape.nodes, is, more, most))

  pub too_few_nodes : s.is_open ≡ false → s.nodes < size → MeetsLeft c l → ⊥
  too_few_nodes closed fewer m = let same = closed_size (fits_left m) (sym shape.holes ∙ closed) in absurd (omega (arith, shape.nodes, is, fewer, same))

-- ---- the sizes of left sides

-- what is left of the arguments tells of a variable what all do
abbrev pub TellVariables : List Term → List Term → Type 0
TellVariables rest all = (v : ℕ) → some_has_var v (forest rest) ≡ some_has_var v (forest all)

pub no_sizes : (rules : List RewriteRule) (sizes : List ℕ) → sizes ≡ [] → AreGroundSizes rules sizes
no_sizes rules sizes none = record {
  ground = λ k n r at. let e : slice_get {X = ℕ} [] k ≡ Some n = rw none at at in absurd cc;
  size = λ k n r at. let e : slice_get {X = ℕ} [] k ≡ Some n = rw none at at in absurd cc;
}

-- the first k rules have their sizes
pub record SizesSoFar (rules : List RewriteRule) (sizes : List ℕ) (k : ℕ) : Type 0 where
  pub count : length sizes ≡ k
  pub known : AreGroundSizes rules sizes

pub next_size : (rules : List RewriteRule) (sizes : List ℕ) (k n : ℕ) (rule : RewriteRule) → SizesSoFar rules sizes k → slice_get rules k ≡ Some rule → (n ≢ 0 → IsGround rule.left)
    → (n ≢ 0 → n ≡ min (size_of rule.left) (2 ^ 32 - 1)) → SizesSoFar rules (sizes ++ n ∷ []) (k + 1)
next_size rules sizes k n rule so_far numbered ground size = record {
  count = omega (arith, so_far.count, length-append sizes (n ∷ []));
  known = record {
    ground = λ i m r at there some. elim (item_of_more sizes n m i at) as (λ _. IsGround r.left) [
      | inl old ↦ so_far.known.ground i m r old there some
      | inr (last, is) ↦ rw (← same_rule i r last there) (ground (rw is at some))
    ];
    size = λ i m r at there some. elim (item_of_more sizes n m i at) as (λ _. m ≡ min (size_of r.left) (2 ^ 32 - 1)) [
      | inl old ↦ so_far.known.size i m r old there some
      | inr (last, is) ↦ rw (← same_rule i r last there, is) (size (rw is at some))
    ];
  };
}
  where
    same_rule : (i : ℕ) (r : RewriteRule) → i ≡ length sizes → slice_get rules i ≡ Some r → rule ≡ r
    same_rule i r last there = same_Some rule r (sym numbered ∙ subst (λ m. slice_get rules m ≡ Some r) (last ∙ so_far.count) there)

pub next_tells : (args : List Term) (k : ℕ) (arg : Term) → k < length args → arg ≡ get_or args k arg → IsGround (tree arg) → TellVariables (drop k args) args → TellVariables (drop (k + 1) args) args
next_tells args k arg h is ground tell v =
    let first : some_has_var v (forest (drop k args)) ≡ (has_var v (tree arg) || some_has_var v (forest (drop (k + 1) args))) = ap (λ ts. some_has_var v (forest ts)) (cell args k arg h is) in
    let rest : (has_var v (tree arg) || some_has_var v (forest (drop (k + 1) args))) ≡ some_has_var v (forest (drop (k + 1) args)) = ap (λ b. b || some_has_var v (forest (drop (k + 1) args))) (ground v) in
    sym rest ∙ (sym first ∙ tell v)

pub all_tell : (t : Tree) (f : ℕ) (args : List Term) (k : ℕ) → t ≡ app f (forest args) → length args ≤ k → TellVariables (drop k args) args → IsGround t
all_tell t f args k is h tell v =
    let none : some_has_var v (forest args) ≡ false = sym (tell v) ∙ ap (λ ts. some_has_var v (forest ts)) (drop_all k args h) in
    rw is none
