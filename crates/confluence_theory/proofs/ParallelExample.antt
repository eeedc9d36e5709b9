-- Parallel closed peaks: a -> b, a -> b, f(x) -> g(x, x), which is not right-linear.
use Rattle.std.specs.Prelude.{◌≡◌, ◌≢◌, ◌≤◌, ℕ, ◌+◌, List, [], ◌∷◌, Some, Bool, true, false, ◌||◌, ◌==◌, if◌then◌else◌, IsTrue, slice_get}
use Rattle.std.proofs.Common.{zero, suc, refl, sym, ◌∙◌, ap, subst, arith}
use Rattle.trs_defs.specs.Member.{In, in_first, in_rest}
use Rattle.trs_defs.specs.Tree.{Tree, Trees, var, app, nil, cons}
use Rattle.trs_defs.specs.Variable.{has_var, IsLinear}
use Rattle.trs_defs.specs.Substitution.{apply}
use Rattle.trs_defs.specs.System.{RewriteRule, System, IsRule, IsSystem, Numbered}
use Rattle.confluence_theory.specs.Linear.{AreLeftLinear}
use Rattle.confluence_theory.specs.Overlap.{OverlapOne, overlap_first, overlap_later}
use Rattle.confluence_theory.specs.ParallelStep.{ParallelStepBy, below_root, no_more}
use Rattle.confluence_theory.specs.Peak.{Peak, HasPeak, Covers}
use Rattle.trs_defs.specs.Step.{RootStep}
use Rattle.trs_defs.specs.Claims.{IsConfluent}
use Rattle.confluence_theory.proofs.Claims.{parallel_closed}
use Rattle.confluence_theory.proofs.Constants.{sides, constant, rewrites, peak_of, each_of_two, in_nothing}

abbrev copying : RewriteRule
copying = record { left = app 2 (cons (var 0) nil); right = app 3 (cons (var 0) (cons (var 0) nil)) }

abbrev pub copier : System
copier = record { arities = 0 ∷ 0 ∷ 1 ∷ 2 ∷ []; rules = rewrites 0 1 ∷ rewrites 0 1 ∷ copying ∷ [] }

abbrev copier_peaks : List Peak
copier_peaks = peak_of 0 1 0 1 1 ∷ peak_of 1 0 0 1 1 ∷ []

a_b_rule : IsRule copier.arities (rewrites 0 1)
a_b_rule = record { left_well_formed = (refl, tt); right_well_formed = (refl, tt); left_no_variable = λ v. absurd (cc v.1); variables = λ v h. h }

copying_variables : (v : ℕ) → IsTrue (has_var v copying.right) → IsTrue (has_var v copying.left)
copying_variables v h = elim (0 == v) as (λ b. IsTrue (b || (b || false)) → IsTrue (b || false)) [ true ↦ λ k. k | false ↦ λ k. k ] h

copying_rule : IsRule copier.arities copying
copying_rule =
    record {
      left_well_formed = (refl, (tt, tt));
      right_well_formed = (refl, (tt, (tt, tt)));
      left_no_variable = λ v. absurd (cc v.1);
      variables = copying_variables;
    }

each_rule : (P : RewriteRule → Type 0) → P (rewrites 0 1) → P copying → (k : ℕ) (r : RewriteRule) → slice_get copier.rules k ≡ Some r → P r
each_rule P a b zero r e = subst P (cc e) a
each_rule P a b (suc zero) r e = subst P (cc e) a
each_rule P a b (suc (suc zero)) r e = subst P (cc e) b
each_rule P a b (suc (suc (suc k))) r e = absurd cc

copier_system : IsSystem copier
copier_system = record { each = each_rule (IsRule copier.arities) a_b_rule copying_rule }

once : (b : Bool) → (if b then 1 else 0) + 0 ≤ 1
once true = omega arith
once false = omega arith

copier_left : AreLeftLinear copier.rules
copier_left = each_rule (λ r. IsLinear r.left) (λ v. omega arith) (λ v. once (0 == v))

apart : (σ ρ : ℕ → Tree) (l l' : Tree) → l ≡ constant 0 → l' ≡ copying.left → apply σ l ≡ apply ρ l' → ⊥
apart σ ρ l l' e e' k =
    let from : apply σ l ≡ constant 0 = ap (apply σ) e in
    let to : apply ρ l' ≡ app 2 (cons (ρ 0) nil) = ap (apply ρ) e' in
    absurd (cc (from, k, to))

a_peak : (i j : ℕ) (l r r' t : Tree) (σ ρ : ℕ → Tree) → In (peak_of i j 0 1 1) copier_peaks → l ≡ constant 0 → r ≡ constant 1 → r' ≡ constant 1
    → t ≡ apply ρ r' → HasPeak copier_peaks i j (apply σ l) t (apply σ r)
a_peak i j l r r' t σ ρ listed e e' e'' to =
    record {
      top = constant 0;
      left = constant 1;
      right = constant 1;
      listed = listed;
      substitution = σ;
      from = ap (apply σ) e;
      inner_to = to ∙ ap (apply ρ) e'';
      outer_to = ap (apply σ) e';
    }

at_root : (i j : ℕ) (l r t : Tree) (σ : ℕ → Tree) → Numbered copier.rules j l r → i ≢ j → RootStep (Numbered copier.rules i) (apply σ l) t
    → HasPeak copier_peaks i j (apply σ l) t (apply σ r)
at_root zero zero l r t σ h n d = absurd (n refl)
at_root zero (suc zero) l r t σ h n (l', r', ρ, h', e, e') =
    let (is_l, is_r) = sides (rewrites 0 1) l r h in
    let (is_l', is_r') = sides (rewrites 0 1) l' r' h' in
    a_peak 0 1 l r r' t σ ρ in_first is_l is_r is_r' e'
at_root (suc zero) zero l r t σ h n (l', r', ρ, h', e, e') =
    let (is_l, is_r) = sides (rewrites 0 1) l r h in
    let (is_l', is_r') = sides (rewrites 0 1) l' r' h' in
    a_peak 1 0 l r r' t σ ρ (in_rest in_first) is_l is_r is_r' e'
at_root (suc zero) (suc zero) l r t σ h n d = absurd (n refl)
at_root (suc (suc zero)) (suc (suc zero)) l r t σ h n d = absurd (n refl)
at_root (suc (suc (suc i))) j l r t σ h n (l', r', ρ, h', e, e') = absurd cc
at_root i (suc (suc (suc j))) l r t σ h n d = absurd cc
at_root zero (suc (suc zero)) l r t σ h n (l', r', ρ, h', e, e') =
    absurd (apart ρ σ l' l (sides (rewrites 0 1) l' r' h').0 (sides copying l r h).0 (sym e))
at_root (suc zero) (suc (suc zero)) l r t σ h n (l', r', ρ, h', e, e') =
    absurd (apart ρ σ l' l (sides (rewrites 0 1) l' r' h').0 (sides copying l r h).0 (sym e))
at_root (suc (suc zero)) zero l r t σ h n (l', r', ρ, h', e, e') =
    absurd (apart σ ρ l l' (sides (rewrites 0 1) l r h).0 (sides copying l' r' h').0 e)
at_root (suc (suc zero)) (suc zero) l r t σ h n (l', r', ρ, h', e, e') =
    absurd (apart σ ρ l l' (sides (rewrites 0 1) l r h).0 (sides copying l' r' h').0 e)

-- no step at a place of the arguments that is no variable
none_in_variable : (R : Tree → Tree → Type 0) (σ : ℕ → Tree) (ts : Trees) → OverlapOne R σ (cons (var 0) nil) ts → ⊥
none_in_variable R σ ts (overlap_first d) = elim d [ ]
none_in_variable R σ ts (overlap_later d) = elim d [ ]

arguments : (k f : ℕ) (ls : Trees) (r : Tree) → Numbered copier.rules k (app f ls) r → (R : Tree → Tree → Type 0) (σ : ℕ → Tree) (ts : Trees) → OverlapOne R σ ls ts → ⊥
arguments zero f ls r h R σ ts d =
    let e : app f ls ≡ constant 0 = (sides (rewrites 0 1) (app f ls) r h).0 in
    in_nothing R σ ts (subst (λ z. OverlapOne R σ z ts) (cc e) d)
arguments (suc zero) f ls r h R σ ts d =
    let e : app f ls ≡ constant 0 = (sides (rewrites 0 1) (app f ls) r h).0 in
    in_nothing R σ ts (subst (λ z. OverlapOne R σ z ts) (cc e) d)
arguments (suc (suc zero)) f ls r h R σ ts d =
    let e : app f ls ≡ copying.left = (sides copying (app f ls) r h).0 in
    none_in_variable R σ ts (subst (λ z. OverlapOne R σ z ts) (cc e) d)
arguments (suc (suc (suc k))) f ls r h R σ ts d = absurd cc

copier_covers : Covers copier.rules copier_peaks
copier_covers =
    record {
      at_root = at_root;
      below_root = λ i j f ls ts r σ h d. absurd (arguments j f ls r h (RootStep (Numbered copier.rules i)) σ ts d);
    }

copier_confluent : IsConfluent copier
copier_confluent =
    parallel_closed copier copier_peaks copier_system copier_left copier_covers
    (each_of_two (λ p. ParallelStepBy copier.rules p.left p.right) (peak_of 0 1 0 1 1) (peak_of 1 0 0 1 1) (below_root no_more) (below_root no_more))
