-- Terms that differ in the numbers of their variables alone are one, once these are numbered in order of first occurrence.
use Rattle.std.specs.Prelude.{◌≡◌, ℕ, Bool, if◌then◌else◌, List, [], ◌∷◌, refl}
use Rattle.std.proofs.Common.{suc, ap, ap₂, sym, ◌∙◌}
use Rattle.trs_defs.specs.Tree.{Tree, Trees, var, app, cons}
use Rattle.trs_defs.specs.Variable.{variables_of}
use Rattle.trs_defs.proofs.NamedTerms.{unchanged}
use Rattle.loop_find.proofs.crit_pairs.Variants.{Paired, paired_variables, paired_symbols, AllPaired, none_paired, one_paired, same_test}
use Rattle.loop_find.proofs.crit_pairs.Variants.{Swaps, pair, AreRelated, related_variables}
use Rattle.term_text.specs.Renumbered.{number_among, with_numbers, all_with_numbers, in_order}
use Rattle.text_determinism.proofs.Renamed.{named}

module _ (R : ℕ → ℕ → Type 0) (one : (v w x : ℕ) → R v w → R v x → w ≡ x) (other : (v x w : ℕ) → R v w → R x w → v ≡ x) where
  same_number : (vs ws : List ℕ) (v w : ℕ) → AreRelated R vs ws → R v w → number_among vs v ≡ number_among ws w
  same_number [] [] v w h r = refl
  same_number [] (y ∷ ws) v w h r = absurd h
  same_number (x ∷ vs) [] v w h r = absurd h
  same_number (x ∷ vs) (y ∷ ws) v w h r =
      ap₂ (λ (b : Bool) (n : ℕ). if b then 0 else suc n) (same_test R one other x v y w h.0 r) (same_number vs ws v w h.1 r)

  mutual
    same_numbers : {t u : Tree} → Paired R t u → (vs ws : List ℕ) → AreRelated R vs ws → with_numbers vs t ≡ with_numbers ws u
    same_numbers (paired_variables {v = v} {w = w} r) vs ws h = ap var (same_number vs ws v w h r)
    same_numbers (paired_symbols {f = f} ps) vs ws h = ap (app f) (all_same_numbers ps vs ws h)

    all_same_numbers : {ts us : Trees} → AllPaired R ts us → (vs ws : List ℕ) → AreRelated R vs ws → all_with_numbers vs ts ≡ all_with_numbers ws us
    all_same_numbers none_paired vs ws h = refl
    all_same_numbers (one_paired p ps) vs ws h = ap₂ cons (same_numbers p vs ws h) (all_same_numbers ps vs ws h)

  same_in_order : (t u : Tree) → Paired R t u → in_order t ≡ in_order u
  same_in_order t u p = same_numbers p (variables_of t) (variables_of u) (related_variables R one other p [] [] tt)

pub one_in_order : (f g : ℕ → ℕ) (t u : Tree) → named f t ≡ u → named g u ≡ t → in_order t ≡ in_order u
one_in_order f g t u e h =
    let all : ℕ → Type 0 = λ v. Unit {0} in
    same_in_order (Swaps (λ v. var (f v)) (λ w. var (g w)) (λ v. v) (λ w. w) all all)
    (λ v w x a b. same w x (sym a.2 ∙ b.2)) (λ v x w a b. same v x (sym a.3 ∙ b.3)) t u
    (pair (λ v. var (f v)) (λ w. var (g w)) (λ v. v) (λ w. w) all all t u (λ v k. tt) (λ w k. tt)
    (e ∙ sym (unchanged u)) (h ∙ sym (unchanged t)))
  where
    same : (v w : ℕ) → var v ≡ var w → v ≡ w
    same v w k = cc
