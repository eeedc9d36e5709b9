-- Instances of well-formed terms, and terms with a well-formed instance. A most general unifier keeps terms well-formed.
use Rattle.std.specs.Prelude.{◌≡◌, ℕ, ◌+◌, Bool, true, false, ◌==◌, List, Option, Some, None, IsTrue, slice_get, refl}
use Rattle.std.proofs.Common.{ap, sym, ◌∙◌, subst, arith}
use Rattle.std.proofs.lemmas.Bool.Decides.{nat_tests}
use Rattle.std.proofs.lemmas.Option.{same_Some}
use Rattle.trs_defs.specs.Tree.{Tree, Trees, var, app, nil, cons, count}
use Rattle.trs_defs.specs.Substitution.{apply, apply_all}
use Rattle.trs_defs.specs.Unifier.{IsMostGeneralUnifier}
use Rattle.trs_defs.specs.WellFormed.{IsWellFormed, AreWellFormed}
use Rattle.trs_defs.proofs.ArgumentLists.{count_apply_all}
use Rattle.trs_defs.proofs.Substitutions.{apply_apply, same_instance}

module _ (arities : List ℕ) where
  mutual
    pub well_formed_image : (σ : ℕ → Tree) → ((v : ℕ) → IsWellFormed arities (σ v)) → (t : Tree) → IsWellFormed arities t → IsWellFormed arities (apply σ t)
    well_formed_image σ images (var n) well = images n
    well_formed_image σ images (app f ts) well = (well.0 ∙ ap (λ n. Some n) (sym (count_apply_all σ ts)), well_formed_images σ images ts well.1)

    well_formed_images : (σ : ℕ → Tree) → ((v : ℕ) → IsWellFormed arities (σ v)) → (ts : Trees) → AreWellFormed arities ts → AreWellFormed arities (apply_all σ ts)
    well_formed_images σ images nil well = tt
    well_formed_images σ images (cons t ts) well = (well_formed_image σ images t well.0, well_formed_images σ images ts well.1)

  -- a term with a well-formed instance is well-formed
  mutual
    pub well_formed_pattern : (σ : ℕ → Tree) (t : Tree) → IsWellFormed arities (apply σ t) → IsWellFormed arities t
    well_formed_pattern σ (var n) well = tt
    well_formed_pattern σ (app f ts) well = (well.0 ∙ ap (λ n. Some n) (count_apply_all σ ts), well_formed_patterns σ ts well.1)

    well_formed_patterns : (σ : ℕ → Tree) (ts : Trees) → AreWellFormed arities (apply_all σ ts) → AreWellFormed arities ts
    well_formed_patterns σ nil well = tt
    well_formed_patterns σ (cons t ts) well = (well_formed_pattern σ t well.0, well_formed_patterns σ ts well.1)

  -- ---- ill-formed subterms cut away

  abbrev is_arity : Option ℕ → ℕ → Bool
  is_arity None n = false
  is_arity (Some m) n = m == n

  abbrev cut : Bool → Tree → Tree
  cut true t = t
  cut false t = var 0

  abbrev mutual
    pruned : Tree → Tree
    pruned (var v) = var v
    pruned (app f ts) = cut (is_arity (slice_get arities f) (count ts)) (app f (all_pruned ts))

    all_pruned : Trees → Trees
    all_pruned nil = nil
    all_pruned (cons t ts) = cons (pruned t) (all_pruned ts)

  count_pruned : (ts : Trees) → count (all_pruned ts) ≡ count ts
  count_pruned nil = refl
  count_pruned (cons t ts) = ap (λ n. 1 + n) (count_pruned ts)

  arity_of : (o : Option ℕ) (n : ℕ) → IsTrue (is_arity o n) → o ≡ Some n
  arity_of None n h = absurd cc
  arity_of (Some m) n h = let same : m ≡ n = grind (arith, nat_tests) in ap (λ k. Some k) same

  test_of : (o : Option ℕ) (n : ℕ) → o ≡ Some n → is_arity o n ≡ true
  test_of None n e = absurd cc
  test_of (Some m) n e = let same : m ≡ n = same_Some m n e in grind (arith, nat_tests)

  well_formed_cut : (b : Bool) (t : Tree) → (IsTrue b → IsWellFormed arities t) → IsWellFormed arities (cut b t)
  well_formed_cut true t well = well refl
  well_formed_cut false t well = tt

  mutual
    well_formed_pruned : (t : Tree) → IsWellFormed arities (pruned t)
    well_formed_pruned (var v) = tt
    well_formed_pruned (app f ts) = well_formed_cut (is_arity (slice_get arities f) (count ts)) (app f (all_pruned ts))
        (λ h. (arity_of (slice_get arities f) (count ts) h ∙ ap (λ n. Some n) (sym (count_pruned ts)), all_well_formed_pruned ts))

    all_well_formed_pruned : (ts : Trees) → AreWellFormed arities (all_pruned ts)
    all_well_formed_pruned nil = tt
    all_well_formed_pruned (cons t ts) = (well_formed_pruned t, all_well_formed_pruned ts)

  mutual
    pruned_instance : (σ : ℕ → Tree) (t : Tree) → IsWellFormed arities t → pruned (apply σ t) ≡ apply (λ v. pruned (σ v)) t
    pruned_instance σ (var n) well = refl
    pruned_instance σ (app f ts) well =
        let kept : is_arity (slice_get arities f) (count (apply_all σ ts)) ≡ true =
        test_of (slice_get arities f) (count (apply_all σ ts)) (well.0 ∙ ap (λ n. Some n) (sym (count_apply_all σ ts))) in
        ap (λ b. cut b (app f (all_pruned (apply_all σ ts)))) kept ∙ ap (app f) (all_pruned_instances σ ts well.1)

    all_pruned_instances : (σ : ℕ → Tree) (ts : Trees) → AreWellFormed arities ts → all_pruned (apply_all σ ts) ≡ apply_all (λ v. pruned (σ v)) ts
    all_pruned_instances σ nil well = refl
    all_pruned_instances σ (cons t ts) well =
        ap (λ u. cons u (all_pruned (apply_all σ ts))) (pruned_instance σ t well.0) ∙ ap (cons (apply (λ v. pruned (σ v)) t)) (all_pruned_instances σ ts well.1)

  -- a most general unifier of well-formed terms makes well-formed terms of well-formed ones
  pub well_formed_unifier : (s t u : Tree) (m : ℕ → Tree) → IsMostGeneralUnifier s t m → IsWellFormed arities s → IsWellFormed arities t → IsWellFormed arities u
      → IsWellFormed arities (apply m u)
  well_formed_unifier s t u m most well_s well_t well_u =
      let σ : ℕ → Tree = λ v. pruned (m v) in
      let unifies : apply σ s ≡ apply σ t = sym (pruned_instance m s well_s) ∙ (ap pruned most.unifies ∙ pruned_instance m t well_t) in
      let (τ, from) = most.most_general σ unifies in
      let same : apply σ u ≡ apply τ (apply m u) = same_instance σ (λ v. apply τ (m v)) u (λ v h. from v) ∙ sym (apply_apply τ m u) in
      well_formed_pattern τ (apply m u) (subst (IsWellFormed arities) same (well_formed_image σ (λ v. well_formed_pruned (m v)) u well_u))
