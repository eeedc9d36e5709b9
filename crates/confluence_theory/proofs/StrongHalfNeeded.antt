-- Strongly closed peaks by one half: p -> q, q -> p, f(p) -> a, f(q) -> d is linear, the left of each peak reaches the right,
-- and it is not confluent: f(p) goes to a, and by f(q) to d.
use Rattle.std.specs.Prelude.{◌≡◌, ◌≢◌, ◌≤◌, ℕ, List, [], ◌∷◌, Some, slice_get}
use Rattle.std.proofs.Common.{zero, suc, refl, sym, ◌∙◌, ap, subst, arith}
use Rattle.trs_defs.specs.Member.{In, in_first, in_rest}
use Rattle.trs_defs.specs.Tree.{Tree, Trees, var, app, nil, cons}
use Rattle.trs_defs.specs.Variable.{occurrences}
use Rattle.trs_defs.specs.Substitution.{apply}
use Rattle.trs_defs.specs.NormalForm.{IsNormalForm}
use Rattle.trs_defs.specs.Run.{Same}
use Rattle.confluence_theory.specs.Confluence.{JoinsStrongly}
use Rattle.trs_defs.specs.System.{RewriteRule, System, IsRule, IsSystem, Numbered}
use Rattle.confluence_theory.specs.Linear.{AreLeftLinear, AreRightLinear}
use Rattle.confluence_theory.specs.Overlap.{OverlapOne, overlap_first, overlap_later}
use Rattle.confluence_theory.specs.Peak.{Peak, HasPeak, Covers}
use Rattle.trs_defs.specs.Step.{here, deep, first, RootStep, Step}
use Rattle.trs_defs.specs.Claims.{IsForked}
use Rattle.trs_defs.proofs.NormalForms.{forked_by_normal_forms}
use Rattle.confluence_theory.proofs.Constants.{constant, rewrites, each_of_two, sides, instances_of, each_listed, at_constant, in_nothing}

-- the constants a, d, p, q are 0, 1, 2, 3
abbrev f : ℕ → Tree
f n = app 4 (cons (constant n) nil)

abbrev ends : ℕ → ℕ → RewriteRule
ends n m = record { left = f n; right = constant m }

abbrev turner : System
turner = record { arities = 0 ∷ 0 ∷ 0 ∷ 0 ∷ 1 ∷ []; rules = rewrites 2 3 ∷ rewrites 3 2 ∷ ends 2 0 ∷ ends 3 1 ∷ [] }

abbrev p_peak : Peak
p_peak = record { inner = 0; outer = 2; top = f 2; left = f 3; right = constant 0 }

abbrev q_peak : Peak
q_peak = record { inner = 1; outer = 3; top = f 3; left = f 2; right = constant 1 }

abbrev turner_peaks : List Peak
turner_peaks = p_peak ∷ q_peak ∷ []

each_rule : (P : RewriteRule → Type 0) → P (rewrites 2 3) → P (rewrites 3 2) → P (ends 2 0) → P (ends 3 1) → (k : ℕ) (r : RewriteRule)
    → slice_get turner.rules k ≡ Some r → P r
each_rule P x y z w zero r e = subst P (cc e) x
each_rule P x y z w (suc zero) r e = subst P (cc e) y
each_rule P x y z w (suc (suc zero)) r e = subst P (cc e) z
each_rule P x y z w (suc (suc (suc zero))) r e = subst P (cc e) w
each_rule P x y z w (suc (suc (suc (suc k)))) r e = absurd cc

turner_system : IsSystem turner
turner_system =
    record {
      each = each_rule (IsRule turner.arities)
          (record { left_well_formed = (refl, tt); right_well_formed = (refl, tt); left_no_variable = λ v. absurd (cc v.1); variables = λ v h. absurd cc })
          (record { left_well_formed = (refl, tt); right_well_formed = (refl, tt); left_no_variable = λ v. absurd (cc v.1); variables = λ v h. absurd cc })
          (record { left_well_formed = (refl, ((refl, tt), tt)); right_well_formed = (refl, tt); left_no_variable = λ v. absurd (cc v.1); variables = λ v h. absurd cc })
          (record { left_well_formed = (refl, ((refl, tt), tt)); right_well_formed = (refl, tt); left_no_variable = λ v. absurd (cc v.1); variables = λ v h. absurd cc });
    }

turner_left : AreLeftLinear turner.rules
turner_left = each_rule (λ r. (v : ℕ) → occurrences v r.left ≤ 1) (λ v. omega arith) (λ v. omega arith) (λ v. omega arith) (λ v. omega arith)

turner_right : AreRightLinear turner.rules
turner_right = each_rule (λ r. (v : ℕ) → occurrences v r.right ≤ 1) (λ v. omega arith) (λ v. omega arith) (λ v. omega arith) (λ v. omega arith)

abbrev numbered : ℕ → RewriteRule
numbered zero = rewrites 2 3
numbered (suc zero) = rewrites 3 2
numbered (suc (suc zero)) = ends 2 0
numbered (suc (suc (suc k))) = ends 3 1

apart : (i j : ℕ) (l r l' r' : Tree) (σ ρ : ℕ → Tree) → Numbered turner.rules j l r → Numbered turner.rules i l' r' → i ≢ j → apply σ l ≡ apply ρ l' → ⊥
apart zero zero l r l' r' σ ρ h h' n e = n refl
apart (suc zero) (suc zero) l r l' r' σ ρ h h' n e = n refl
apart (suc (suc zero)) (suc (suc zero)) l r l' r' σ ρ h h' n e = n refl
apart (suc (suc (suc zero))) (suc (suc (suc zero))) l r l' r' σ ρ h h' n e = n refl
apart (suc (suc (suc (suc i)))) j l r l' r' σ ρ h h' n e = absurd cc
apart i (suc (suc (suc (suc j)))) l r l' r' σ ρ h h' n e = absurd cc
apart i j l r l' r' σ ρ h h' n e = absurd (cc (instances_of (numbered j) (numbered i) l r l' r' σ ρ h h' e))

at_argument : (i n : ℕ) (σ : ℕ → Tree) (ts : Trees) → OverlapOne (RootStep (Numbered turner.rules i)) σ (cons (constant n) nil) ts
    → (t : Tree) × (ts ≡ cons t nil) × RootStep (Numbered turner.rules i) (constant n) t
at_argument i n σ ts (overlap_first {t = t} d) = (t, refl, at_constant (RootStep (Numbered turner.rules i)) n σ t d)
at_argument i n σ ts (overlap_later d) = elim d [ ]

from_p : (i : ℕ) (t : Tree) → RootStep (Numbered turner.rules i) (constant 2) t → (i ≡ 0) × (t ≡ constant 3)
from_p zero t (l, r, σ, h, e, e') = (refl, e' ∙ ap (apply σ) (sides (rewrites 2 3) l r h).1)
from_p (suc zero) t (l, r, σ, h, e, e') = absurd (cc (e ∙ ap (apply σ) (sides (rewrites 3 2) l r h).0))
from_p (suc (suc zero)) t (l, r, σ, h, e, e') = absurd (cc (e ∙ ap (apply σ) (sides (ends 2 0) l r h).0))
from_p (suc (suc (suc zero))) t (l, r, σ, h, e, e') = absurd (cc (e ∙ ap (apply σ) (sides (ends 3 1) l r h).0))
from_p (suc (suc (suc (suc i)))) t (l, r, σ, h, e, e') = absurd cc

from_q : (i : ℕ) (t : Tree) → RootStep (Numbered turner.rules i) (constant 3) t → (i ≡ 1) × (t ≡ constant 2)
from_q zero t (l, r, σ, h, e, e') = absurd (cc (e ∙ ap (apply σ) (sides (rewrites 2 3) l r h).0))
from_q (suc zero) t (l, r, σ, h, e, e') = (refl, e' ∙ ap (apply σ) (sides (rewrites 3 2) l r h).1)
from_q (suc (suc zero)) t (l, r, σ, h, e, e') = absurd (cc (e ∙ ap (apply σ) (sides (ends 2 0) l r h).0))
from_q (suc (suc (suc zero))) t (l, r, σ, h, e, e') = absurd (cc (e ∙ ap (apply σ) (sides (ends 3 1) l r h).0))
from_q (suc (suc (suc (suc i)))) t (l, r, σ, h, e, e') = absurd cc

listed : (peak : Peak) (i j s : ℕ) (ls ts : Trees) (r : Tree) (σ : ℕ → Tree) → In peak turner_peaks → peak.inner ≡ i → peak.outer ≡ j
    → app s ls ≡ peak.top → app s ts ≡ peak.left → r ≡ peak.right → apply σ peak.top ≡ peak.top → apply σ peak.left ≡ peak.left → HasPeak turner_peaks i j (apply σ (app s ls)) (app s ts) (apply σ r)
listed peak i j s ls ts r σ is_in e_inner e_outer e_top e_left e_right ground ground' =
    record {
      top = peak.top;
      left = peak.left;
      right = peak.right;
      listed = rw (← e_inner, ← e_outer) is_in;
      substitution = σ;
      from = ap (apply σ) e_top;
      inner_to = e_left ∙ sym ground';
      outer_to = ap (apply σ) e_right;
    }

inside : (i j s : ℕ) (ls ts : Trees) (r : Tree) (σ : ℕ → Tree) → Numbered turner.rules j (app s ls) r → OverlapOne (RootStep (Numbered turner.rules i)) σ ls ts
    → HasPeak turner_peaks i j (apply σ (app s ls)) (app s ts) (apply σ r)
inside i zero s ls ts r σ h d =
    let e : app s ls ≡ constant 2 = (sides (rewrites 2 3) (app s ls) r h).0 in
    absurd (in_nothing (RootStep (Numbered turner.rules i)) σ ts (subst (λ z. OverlapOne (RootStep (Numbered turner.rules i)) σ z ts) (cc e) d))
inside i (suc zero) s ls ts r σ h d =
    let e : app s ls ≡ constant 3 = (sides (rewrites 3 2) (app s ls) r h).0 in
    absurd (in_nothing (RootStep (Numbered turner.rules i)) σ ts (subst (λ z. OverlapOne (RootStep (Numbered turner.rules i)) σ z ts) (cc e) d))
inside i (suc (suc zero)) s ls ts r σ h d =
    let (is_left, is_right) = sides (ends 2 0) (app s ls) r h in
    let (t, is_ts, step) = at_argument i 2 σ ts (subst (λ z. OverlapOne (RootStep (Numbered turner.rules i)) σ z ts) (cc is_left) d) in
    let (is_i, is_t) = from_p i t step in
    listed p_peak i 2 s ls ts r σ in_first (sym is_i) refl is_left (cc (is_left, is_ts, is_t)) is_right refl refl
inside i (suc (suc (suc zero))) s ls ts r σ h d =
    let (is_left, is_right) = sides (ends 3 1) (app s ls) r h in
    let (t, is_ts, step) = at_argument i 3 σ ts (subst (λ z. OverlapOne (RootStep (Numbered turner.rules i)) σ z ts) (cc is_left) d) in
    let (is_i, is_t) = from_q i t step in
    listed q_peak i 3 s ls ts r σ (in_rest in_first) (sym is_i) refl is_left (cc (is_left, is_ts, is_t)) is_right refl refl
inside i (suc (suc (suc (suc j)))) s ls ts r σ h d = absurd cc

turner_covers : Covers turner.rules turner_peaks
turner_covers =
    record {
      at_root = λ i j l r t σ h n (l', r', ρ, h', e, e'). absurd (apart i j l r l' r' σ ρ h h' n e);
      below_root = inside;
    }

p_q : Step turner.rules (f 2) (f 3)
p_q = deep (first (here (constant 2, constant 3, λ v. var v, in_first, refl, refl)))

q_p : Step turner.rules (f 3) (f 2)
q_p = deep (first (here (constant 3, constant 2, λ v. var v, in_rest in_first, refl, refl)))

p_a : Step turner.rules (f 2) (constant 0)
p_a = here (f 2, constant 0, λ v. var v, in_rest (in_rest in_first), refl, refl)

q_d : Step turner.rules (f 3) (constant 1)
q_d = here (f 3, constant 1, λ v. var v, in_rest (in_rest (in_rest in_first)), refl, refl)

-- the left of each peak reaches the right
half_closed : (peak : Peak) → In peak turner_peaks → JoinsStrongly (Step turner.rules) peak.left peak.right
half_closed =
    each_of_two (λ p. JoinsStrongly (Step turner.rules) p.left p.right) p_peak q_peak
    (constant 0, (2, (f 2, q_p, (constant 0, p_a, refl))), Same)
    (constant 1, (2, (f 3, p_q, (constant 1, q_d, refl))), Same)

abbrev HasOther : ℕ → RewriteRule → Type 0
HasOther s rule = (σ : ℕ → Tree) → constant s ≡ apply σ rule.left → ⊥

normal : (s : ℕ) → s ≢ 2 → s ≢ 3 → IsNormalForm (Step turner.rules) (constant s)
normal s n m u (here (l, r, σ, h, e, e')) =
    each_listed turner.rules (HasOther s) (each_rule (HasOther s) (λ σ e. n (cc e)) (λ σ e. m (cc e)) (λ σ e. absurd (cc e)) (λ σ e. absurd (cc e)))
    (record { left = l; right = r }) h σ e
normal s n m u (deep d) = elim d [ ]

turner_forked : IsForked turner
turner_forked =
    forked_by_normal_forms turner (f 2) (constant 0) (constant 1) (refl, ((refl, tt), tt)) (1, (constant 0, p_a, refl))
    (2, (f 3, p_q, (constant 1, q_d, refl))) (normal 0 (λ e. absurd (omega arith)) (λ e. absurd (omega arith)))
    (normal 1 (λ e. absurd (omega arith)) (λ e. absurd (omega arith))) (λ e. absurd (cc e))

-- Both halves are needed.
both_halves_are_needed : IsSystem turner × AreLeftLinear turner.rules × AreRightLinear turner.rules × Covers turner.rules turner_peaks
    × ((peak : Peak) → In peak turner_peaks → JoinsStrongly (Step turner.rules) peak.left peak.right) × IsForked turner
both_halves_are_needed = (turner_system, turner_left, turner_right, turner_covers, half_closed, turner_forked)
