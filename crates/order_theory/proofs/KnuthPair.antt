-- The Knuth-Bendix order is well-founded in the finite sense, on well-formed terms.
use Rattle.std.proofs.Common.{◌≡◌, ℕ, ◌+◌, ◌-◌, ◌≤◌, ◌<◌, refl, sym, ap, subst, arith, ◌⊎◌, inl, inr, List, true, false, Option, Some, slice_get, length, nat_lt}
use Rattle.std.proofs.lemmas.Option.{slice_get_within}
use Rattle.trs_defs.specs.Tree.{Tree, var, count}
use Rattle.trs_defs.specs.Substitution.{apply}
use Rattle.pair_theory.specs.Terminates.{Terminates}
use Rattle.trs_defs.specs.System.{RewriteRule, Among}
use Rattle.trs_defs.specs.Member.{In}
use Rattle.pair_theory.specs.Subterm.{Sub}
use Rattle.pair_theory.specs.Moves.{MovesAtMost, IsOrdered, IsWellFounded}
use Rattle.pair_theory.proofs.Reducts.{bounded}
use Rattle.order_theory.proofs.Fallers.{falling, each_of_system, weak_run, moves_bounded}
use Rattle.pair_theory.specs.ReductionPair.{ReductionPair, Speaks}
use Rattle.order_theory.specs.KnuthBendix.{KnuthGreater, KnuthWeak, IsAdmissible, arity_with_marks}
use Rattle.pair_theory.specs.Over.{IsOver}
use Rattle.pair_theory.proofs.Over.{over_apply, each_over, over_wider, over_wider_all, declared, over_of_well_formed, over_of_well_formed_all}
use Rattle.order_theory.proofs.KnuthLaws.{falling_terminates, heavy_apply, heavy_trans, weak_context}

module _ (arity : ℕ → Option ℕ) (w rank : ℕ → ℕ) (admissible : IsAdmissible arity w rank) where
  abbrev Good : RewriteRule → Type 0
  Good p = IsOver arity p.left × IsOver arity p.right × ((x : ℕ) → Sub (var x) p.right → Sub (var x) p.left)

  module _ (ws ss : List RewriteRule) (weak : (p : RewriteRule) → In p ws → (p.left ≡ p.right) ⊎ KnuthGreater w rank p.left p.right) (strict : (p : RewriteRule) → In p ss → KnuthGreater w rank p.left p.right)
      (good : (p : RewriteRule) → In p ws → Good p) (good' : (p : RewriteRule) → In p ss → Good p) where
    abbrev Fits : RewriteRule → Type 0
    Fits q = KnuthGreater w rank q.left q.right × Good q

    fits : (q : RewriteRule) → In q (falling ws ss) → Fits q
    fits = each_of_system (λ t. t) ws ss Fits (λ p i. (strict p i, good' p i))
        (λ p i n. elim (weak p i) [ inl e ↦ absurd (n e) | inr g ↦ (g, good p i) ])

    system_terminates : (t : Tree) → IsOver arity t → Terminates (Among (falling ws ss)) t
    system_terminates = falling_terminates arity w rank admissible (Among (falling ws ss)) (λ l r i. (fits _ i).0) (λ l r i. (fits _ i).1.0) (λ l r i. (fits _ i).1.1) (λ l r i. (fits _ i).1.2)

    pub knuth_bound : (t : Tree) → IsOver arity t → (n : ℕ) × MovesAtMost ws ss n t
    knuth_bound t v = moves_bounded (λ t. t) ws ss (λ σ. σ) (λ σ t. refl) (λ s u d. weak_run ws ss d) t (bounded (falling ws ss) (λ q i. (fits q i).1.2) (system_terminates t v))

  ordered_good : (order : Tree → Tree → Type 0) (p : RewriteRule) → IsOrdered (IsOver arity) order p → Good p
  ordered_good order p h = (h.left_spoken, h.right_spoken, h.variables)

  pub knuth_well_founded : IsWellFounded (KnuthWeak w rank) (KnuthGreater w rank) (IsOver arity)
  knuth_well_founded ws ss weak strict t v =
      knuth_bound ws ss (λ p i. (weak p i).ordered) (λ p i. (strict p i).ordered)
      (λ p i. ordered_good (KnuthWeak w rank) p (weak p i)) (λ p i. ordered_good (KnuthGreater w rank) p (strict p i)) t v

  weak_apply : (σ : ℕ → Tree) (s t : Tree) → ((x : ℕ) → IsOver arity (σ x)) → IsOver arity s → KnuthWeak w rank s t → KnuthWeak w rank (apply σ s) (apply σ t)
  weak_apply σ s t good v (inl e) = inl (ap (apply σ) e)
  weak_apply σ s t good v (inr g) = inr (heavy_apply arity w rank admissible σ good g v)

  weak_strict : (s t u : Tree) → IsOver arity s → IsOver arity t → IsOver arity u → KnuthWeak w rank s t → KnuthGreater w rank t u → KnuthGreater w rank s u
  weak_strict s t u vs vt vu (inl e) g = subst (λ z. KnuthGreater w rank z u) (sym e) g
  weak_strict s t u vs vt vu (inr h) g = heavy_trans arity w rank admissible h u g vs vt vu

  weak_trans : (s t u : Tree) → IsOver arity s → IsOver arity t → IsOver arity u → KnuthWeak w rank s t → KnuthWeak w rank t u → KnuthWeak w rank s u
  weak_trans s t u vs vt vu h (inl e) = subst (KnuthWeak w rank s) e h
  weak_trans s t u vs vt vu h (inr g) = inr (weak_strict s t u vs vt vu h g)

  -- the Knuth-Bendix order, over the terms of an arity function
  pub knuth_pair : ReductionPair (KnuthWeak w rank) (KnuthGreater w rank) (IsOver arity)
  knuth_pair = record {
    spoken_var = λ v. tt;
    spoken_args = λ f ts h. each_over arity ts h.1;
    spoken_apply = λ σ t good h. over_apply arity σ t h (λ x p. good x);
    weak_refl = λ t. inl refl;
    weak_trans = weak_trans;
    weak_context = λ s t vs vt. weak_context arity w rank admissible;
    weak_apply = λ σ s t good vs vt h. weak_apply σ s t good vs h;
    strict_apply = λ σ s t good vs vt g. heavy_apply arity w rank admissible σ good g vs;
    weak_strict = weak_strict;
    well_founded = knuth_well_founded;
  }

-- well-formed terms, plain and marked, are terms of the arities with marks
pub arity_below : (arities : List ℕ) (f n : ℕ) → f < 4096 → slice_get arities f ≡ Some n → arity_with_marks arities f ≡ Some n
arity_below arities f n lt e = let test : nat_lt f 4096 ≡ true = grind arith in rw test e

pub arity_above : (arities : List ℕ) (f n : ℕ) → slice_get arities f ≡ Some n → arity_with_marks arities (f + 4096) ≡ Some n
arity_above arities f n e =
    let test : nat_lt (f + 4096) 4096 ≡ false = grind arith in let same : f + 4096 - 4096 ≡ f = omega arith in rw test (rw same e)

module _ (arities : List ℕ) (few : length arities ≤ 4096) where
  agrees : (f n : ℕ) → slice_get arities f ≡ Some n → arity_with_marks arities f ≡ Some n
  agrees f n e = let lt = slice_get_within arities f n e in arity_below arities f n (omega arith) e

  pub knuth_speaks : Speaks arities (IsOver (arity_with_marks arities))
  knuth_speaks = record {
    of_terms = λ t w. over_wider (declared arities) (arity_with_marks arities) agrees t (over_of_well_formed arities t w);
    of_marked = λ u w. (
      arity_above arities u.symbol (count u.args) w.0,
      over_wider_all (declared arities) (arity_with_marks arities) agrees u.args (over_of_well_formed_all arities u.args w.1),
    );
  }
