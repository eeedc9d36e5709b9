-- Without right-linearity: f(a, a) -> c, f(b, x) -> f(x, x), f(x, b) -> f(x, x), a -> b (Hirokawa and Middeldorp, Decreasing
-- diagrams and relative termination, 2011) is left-linear, its peaks are decreasing with the ranks 0, 0, 0, 1, and it is not
-- confluent: f(a, a) goes to c, and by f(b, a) to f(b, b), which goes to itself alone.
use Rattle.std.specs.Prelude.{◌≡◌, ◌≢◌, ◌≤◌, ◌+◌, ℕ, List, [], ◌∷◌, Some, Bool, true, false, ◌||◌, ◌==◌, if◌then◌else◌, IsTrue, slice_get}
use Rattle.std.proofs.Common.{zero, suc, refl, sym, ◌∙◌, ap, subst, inl, arith}
use Rattle.trs_defs.specs.Member.{In, in_first, in_rest}
use Rattle.trs_defs.specs.Tree.{Tree, Trees, var, app, nil, cons}
use Rattle.trs_defs.specs.Variable.{has_var, occurrences}
use Rattle.trs_defs.specs.Substitution.{apply}
use Rattle.trs_defs.specs.Derivation.{Derivation}
use Rattle.trs_defs.specs.Joinable.{IsJoinable}
use Rattle.trs_defs.specs.NormalForm.{IsNormalForm}
use Rattle.trs_defs.specs.System.{RewriteRule, System, IsRule, IsSystem, Numbered}
use Rattle.confluence_theory.specs.Linear.{AreLeftLinear}
use Rattle.confluence_theory.specs.Overlap.{OverlapOne, overlap_first, overlap_later}
use Rattle.confluence_theory.specs.Peak.{Peak, HasPeak, Covers}
use Rattle.trs_defs.specs.Step.{here, deep, first, later, RootStep, Step}
use Rattle.confluence_theory.specs.RuleRanks.{NumberedStep, IsDecreasing}
use Rattle.trs_defs.specs.Claims.{IsForked}
use Rattle.trs_defs.proofs.NormalForms.{normal_stays}
use Rattle.confluence_theory.proofs.Constants.{constant, rewrites, sides, instances_of, each_listed, at_constant, in_nothing}

abbrev f : Tree → Tree → Tree
f t u = app 3 (cons t (cons u nil))

abbrev a : Tree
a = constant 0

abbrev b : Tree
b = constant 1

abbrev c : Tree
c = constant 2

abbrev end_rule : RewriteRule
end_rule = record { left = f a a; right = c }

abbrev left_rule : RewriteRule
left_rule = record { left = f b (var 0); right = f (var 0) (var 0) }

abbrev right_rule : RewriteRule
right_rule = record { left = f (var 0) b; right = f (var 0) (var 0) }

abbrev copier : System
copier = record { arities = 0 ∷ 0 ∷ 0 ∷ 2 ∷ []; rules = end_rule ∷ left_rule ∷ right_rule ∷ rewrites 0 1 ∷ [] }

abbrev first_peak : Peak
first_peak = record { inner = 3; outer = 0; top = f a a; left = f b a; right = c }

abbrev second_peak : Peak
second_peak = record { inner = 3; outer = 0; top = f a a; left = f a b; right = c }

abbrev root_peak : ℕ → ℕ → Peak
root_peak i j = record { inner = i; outer = j; top = f b b; left = f b b; right = f b b }

abbrev copier_peaks : List Peak
copier_peaks = first_peak ∷ second_peak ∷ root_peak 1 2 ∷ root_peak 2 1 ∷ []

each_peak : (P : Peak → Type 0) → P first_peak → P second_peak → P (root_peak 1 2) → P (root_peak 2 1) → (peak : Peak) → In peak copier_peaks → P peak
each_peak P x y z w peak in_first = x
each_peak P x y z w peak (in_rest in_first) = y
each_peak P x y z w peak (in_rest (in_rest in_first)) = z
each_peak P x y z w peak (in_rest (in_rest (in_rest in_first))) = w
each_peak P x y z w peak (in_rest (in_rest (in_rest (in_rest h)))) = elim h [ ]

each_rule : (P : RewriteRule → Type 0) → P end_rule → P left_rule → P right_rule → P (rewrites 0 1) → (k : ℕ) (r : RewriteRule)
    → slice_get copier.rules k ≡ Some r → P r
each_rule P x y z w zero r e = subst P (cc e) x
each_rule P x y z w (suc zero) r e = subst P (cc e) y
each_rule P x y z w (suc (suc zero)) r e = subst P (cc e) z
each_rule P x y z w (suc (suc (suc zero))) r e = subst P (cc e) w
each_rule P x y z w (suc (suc (suc (suc k)))) r e = absurd cc

left_variables : (v : ℕ) → IsTrue (has_var v left_rule.right) → IsTrue (has_var v left_rule.left)
left_variables v h = elim (0 == v) as (λ k. IsTrue (k || (k || false)) → IsTrue (false || (k || false))) [ true ↦ λ k. refl | false ↦ λ k. k ] h

right_variables : (v : ℕ) → IsTrue (has_var v right_rule.right) → IsTrue (has_var v right_rule.left)
right_variables v h = elim (0 == v) as (λ k. IsTrue (k || (k || false)) → IsTrue (k || (false || false))) [ true ↦ λ k. refl | false ↦ λ k. k ] h

copier_system : IsSystem copier
copier_system =
    record {
      each = each_rule (IsRule copier.arities)
          (record {
            left_well_formed = (refl, ((refl, tt), ((refl, tt), tt)));
            right_well_formed = (refl, tt);
            left_no_variable = λ v. absurd (cc v.1);
            variables = λ v h. absurd cc;
          })
          (record {
            left_well_formed = (refl, ((refl, tt), (tt, tt)));
            right_well_formed = (refl, (tt, (tt, tt)));
            left_no_variable = λ v. absurd (cc v.1);
            variables = left_variables;
          })
          (record {
            left_well_formed = (refl, (tt, ((refl, tt), tt)));
            right_well_formed = (refl, (tt, (tt, tt)));
            left_no_variable = λ v. absurd (cc v.1);
            variables = right_variables;
          })
          (record { left_well_formed = (refl, tt); right_well_formed = (refl, tt); left_no_variable = λ v. absurd (cc v.1); variables = λ v h. absurd cc });
    }

once_left : (k : Bool) → 0 + ((if k then 1 else 0) + 0) ≤ 1
once_left true = omega arith
once_left false = omega arith

once_right : (k : Bool) → (if k then 1 else 0) + (0 + 0) ≤ 1
once_right true = omega arith
once_right false = omega arith

copier_left : AreLeftLinear copier.rules
copier_left =
    each_rule (λ r. (v : ℕ) → occurrences v r.left ≤ 1) (λ v. omega arith) (λ v. once_left (0 == v)) (λ v. once_right (0 == v)) (λ v. omega arith)

abbrev numbered : ℕ → RewriteRule
numbered zero = end_rule
numbered (suc zero) = left_rule
numbered (suc (suc zero)) = right_rule
numbered (suc (suc (suc k))) = rewrites 0 1

-- the two rules at the root of f(b, b)
both_at_root : (i j : ℕ) (l r t x y : Tree) (σ : ℕ → Tree) → In (root_peak i j) copier_peaks → apply σ l ≡ f b b → t ≡ f x x → x ≡ b → apply σ r ≡ f y y → y ≡ b
    → HasPeak copier_peaks i j (apply σ l) t (apply σ r)
both_at_root i j l r t x y σ listed e to is_x right is_y =
    record {
      top = f b b;
      left = f b b;
      right = f b b;
      listed = listed;
      substitution = σ;
      from = e;
      inner_to = to ∙ ap (λ z. f z z) is_x;
      outer_to = right ∙ ap (λ z. f z z) is_y;
    }

at_root : (i j : ℕ) (l r t : Tree) (σ : ℕ → Tree) → Numbered copier.rules j l r → i ≢ j → RootStep (Numbered copier.rules i) (apply σ l) t
    → HasPeak copier_peaks i j (apply σ l) t (apply σ r)
at_root zero zero l r t σ h n d = absurd (n refl)
at_root (suc zero) (suc zero) l r t σ h n d = absurd (n refl)
at_root (suc (suc zero)) (suc (suc zero)) l r t σ h n d = absurd (n refl)
at_root (suc (suc (suc zero))) (suc (suc (suc zero))) l r t σ h n d = absurd (n refl)
at_root (suc (suc (suc (suc i)))) j l r t σ h n (l', r', ρ, h', e, e') = absurd cc
at_root i (suc (suc (suc (suc j)))) l r t σ h n d = absurd cc
at_root (suc zero) (suc (suc zero)) l r t σ h n (l', r', ρ, h', e, e') =
    let k : f (σ 0) b ≡ f b (ρ 0) = instances_of right_rule left_rule l r l' r' σ ρ h h' e in
    let is_y : σ 0 ≡ b = cc k in
    both_at_root 1 2 l r t (ρ 0) (σ 0) σ (in_rest (in_rest in_first)) (ap (apply σ) (sides right_rule l r h).0 ∙ ap (λ z. f z b) is_y)
    (e' ∙ ap (apply ρ) (sides left_rule l' r' h').1) (cc k) (ap (apply σ) (sides right_rule l r h).1) is_y
at_root (suc (suc zero)) (suc zero) l r t σ h n (l', r', ρ, h', e, e') =
    let k : f b (σ 0) ≡ f (ρ 0) b = instances_of left_rule right_rule l r l' r' σ ρ h h' e in
    let is_y : σ 0 ≡ b = cc k in
    both_at_root 2 1 l r t (ρ 0) (σ 0) σ (in_rest (in_rest (in_rest in_first))) (ap (apply σ) (sides left_rule l r h).0 ∙ ap (λ z. f b z) is_y)
    (e' ∙ ap (apply ρ) (sides right_rule l' r' h').1) (cc k) (ap (apply σ) (sides left_rule l r h).1) is_y
at_root i j l r t σ h n (l', r', ρ, h', e, e') = absurd (cc (instances_of (numbered j) (numbered i) l r l' r' σ ρ h h' e))

abbrev By : ℕ → Tree → Tree → Type 0
By i = RootStep (Numbered copier.rules i)

from_a : (i : ℕ) (t : Tree) → By i a t → (i ≡ 3) × (t ≡ b)
from_a zero t (l, r, σ, h, e, e') = absurd (cc (e ∙ ap (apply σ) (sides end_rule l r h).0))
from_a (suc zero) t (l, r, σ, h, e, e') = absurd (cc (e ∙ ap (apply σ) (sides left_rule l r h).0))
from_a (suc (suc zero)) t (l, r, σ, h, e, e') = absurd (cc (e ∙ ap (apply σ) (sides right_rule l r h).0))
from_a (suc (suc (suc zero))) t (l, r, σ, h, e, e') = (refl, e' ∙ ap (apply σ) (sides (rewrites 0 1) l r h).1)
from_a (suc (suc (suc (suc i)))) t (l, r, σ, h, e, e') = absurd cc

from_b : (i : ℕ) (t : Tree) → By i b t → ⊥
from_b zero t (l, r, σ, h, e, e') = absurd (cc (e ∙ ap (apply σ) (sides end_rule l r h).0))
from_b (suc zero) t (l, r, σ, h, e, e') = absurd (cc (e ∙ ap (apply σ) (sides left_rule l r h).0))
from_b (suc (suc zero)) t (l, r, σ, h, e, e') = absurd (cc (e ∙ ap (apply σ) (sides right_rule l r h).0))
from_b (suc (suc (suc zero))) t (l, r, σ, h, e, e') = absurd (cc (e ∙ ap (apply σ) (sides (rewrites 0 1) l r h).0))
from_b (suc (suc (suc (suc i)))) t (l, r, σ, h, e, e') = absurd cc

listed_at : (peak : Peak) (i s : ℕ) (ls ts : Trees) (r : Tree) (σ : ℕ → Tree) → In peak copier_peaks → i ≡ peak.inner → app s ls ≡ peak.top → app s ts ≡ peak.left
    → r ≡ peak.right → apply σ peak.left ≡ peak.left → HasPeak copier_peaks i peak.outer (apply σ (app s ls)) (app s ts) (apply σ r)
listed_at peak i s ls ts r σ is_in e_inner e_top e_left e_right ground =
    record {
      top = peak.top;
      left = peak.left;
      right = peak.right;
      listed = rw e_inner is_in;
      substitution = σ;
      from = ap (apply σ) e_top;
      inner_to = e_left ∙ sym ground;
      outer_to = ap (apply σ) e_right;
    }

in_end : (i s : ℕ) (ls ts : Trees) (r : Tree) (σ : ℕ → Tree) → app s ls ≡ f a a → r ≡ c → OverlapOne (By i) σ (cons a (cons a nil)) ts
    → HasPeak copier_peaks i 0 (apply σ (app s ls)) (app s ts) (apply σ r)
in_end i s ls ts r σ is_left is_right (overlap_first {t = t} d) =
    let (is_i, is_t) = from_a i t (at_constant (By i) 0 σ t d) in
    listed_at first_peak i s ls ts r σ in_first is_i is_left (cc (is_left, is_t)) is_right refl
in_end i s ls ts r σ is_left is_right (overlap_later (overlap_first {t = t} d)) =
    let (is_i, is_t) = from_a i t (at_constant (By i) 0 σ t d) in
    listed_at second_peak i s ls ts r σ (in_rest in_first) is_i is_left (cc (is_left, is_t)) is_right refl
in_end i s ls ts r σ is_left is_right (overlap_later (overlap_later d)) = elim d [ ]

in_left : (i : ℕ) (σ : ℕ → Tree) (ts : Trees) → OverlapOne (By i) σ (cons b (cons (var 0) nil)) ts → ⊥
in_left i σ ts (overlap_first {t = t} d) = from_b i t (at_constant (By i) 1 σ t d)
in_left i σ ts (overlap_later (overlap_first d)) = elim d [ ]
in_left i σ ts (overlap_later (overlap_later d)) = elim d [ ]

in_right : (i : ℕ) (σ : ℕ → Tree) (ts : Trees) → OverlapOne (By i) σ (cons (var 0) (cons b nil)) ts → ⊥
in_right i σ ts (overlap_first d) = elim d [ ]
in_right i σ ts (overlap_later (overlap_first {t = t} d)) = from_b i t (at_constant (By i) 1 σ t d)
in_right i σ ts (overlap_later (overlap_later d)) = elim d [ ]

inside : (i j s : ℕ) (ls ts : Trees) (r : Tree) (σ : ℕ → Tree) → Numbered copier.rules j (app s ls) r → OverlapOne (By i) σ ls ts
    → HasPeak copier_peaks i j (apply σ (app s ls)) (app s ts) (apply σ r)
inside i zero s ls ts r σ h d =
    let (is_left, is_right) = sides end_rule (app s ls) r h in
    in_end i s ls ts r σ is_left is_right (subst (λ z. OverlapOne (By i) σ z ts) (cc is_left) d)
inside i (suc zero) s ls ts r σ h d =
    let e : app s ls ≡ left_rule.left = (sides left_rule (app s ls) r h).0 in
    absurd (in_left i σ ts (subst (λ z. OverlapOne (By i) σ z ts) (cc e) d))
inside i (suc (suc zero)) s ls ts r σ h d =
    let e : app s ls ≡ right_rule.left = (sides right_rule (app s ls) r h).0 in
    absurd (in_right i σ ts (subst (λ z. OverlapOne (By i) σ z ts) (cc e) d))
inside i (suc (suc (suc zero))) s ls ts r σ h d =
    let e : app s ls ≡ a = (sides (rewrites 0 1) (app s ls) r h).0 in
    absurd (in_nothing (By i) σ ts (subst (λ z. OverlapOne (By i) σ z ts) (cc e) d))
inside i (suc (suc (suc (suc j)))) s ls ts r σ h d = absurd cc

copier_covers : Covers copier.rules copier_peaks
copier_covers = record { at_root = at_root; below_root = inside }

abbrev ranks : List ℕ
ranks = 0 ∷ 0 ∷ 0 ∷ 1 ∷ []

by_rule : (k : ℕ) (r : RewriteRule) (σ : ℕ → Tree) → slice_get copier.rules k ≡ Some r → NumberedStep copier.rules k (apply σ r.left) (apply σ r.right)
by_rule k r σ h = here (r.left, r.right, σ, h, refl, refl)

a_to_c : NumberedStep copier.rules 0 (f a a) c
a_to_c = by_rule 0 end_rule (λ v. a) refl

copier_decreasing : (peak : Peak) → In peak copier_peaks → IsDecreasing copier.rules ranks peak
copier_decreasing =
    each_peak (IsDecreasing copier.rules ranks)
    (record {
      end = c;
      left_path = 1 ∷ 0 ∷ [];
      left_steps = (f a a, by_rule 1 left_rule (λ v. a) refl, (c, a_to_c, refl));
      left_fits = inl (omega arith, inl (omega arith, tt));
      right_path = [];
      right_steps = refl;
      right_fits = tt;
    })
    (record {
      end = c;
      left_path = 2 ∷ 0 ∷ [];
      left_steps = (f a a, by_rule 2 right_rule (λ v. a) refl, (c, a_to_c, refl));
      left_fits = inl (omega arith, inl (omega arith, tt));
      right_path = [];
      right_steps = refl;
      right_fits = tt;
    })
    (record { end = f b b; left_path = []; left_steps = refl; left_fits = tt; right_path = []; right_steps = refl; right_fits = tt })
    (record { end = f b b; left_path = []; left_steps = refl; left_fits = tt; right_path = []; right_steps = refl; right_fits = tt })

-- f(b, b) goes to itself alone

abbrev IsNoLeft : Tree → RewriteRule → Type 0
IsNoLeft t rule = (σ : ℕ → Tree) → t ≡ apply σ rule.left → ⊥

constant_normal : (n : ℕ) → n ≢ 0 → IsNormalForm (Step copier.rules) (constant n)
constant_normal n not u (here (l, r, σ, h, e, e')) =
    each_listed copier.rules (IsNoLeft (constant n))
    (each_rule (IsNoLeft (constant n)) (λ σ e. absurd (cc e)) (λ σ e. absurd (cc e)) (λ σ e. absurd (cc e)) (λ σ e. not (cc e)))
    (record { left = l; right = r }) h σ e
constant_normal n not u (deep d) = elim d [ ]

abbrev GoesBack : RewriteRule → Type 0
GoesBack rule = (σ : ℕ → Tree) → f b b ≡ apply σ rule.left → apply σ rule.right ≡ f b b

goes_back : (t : Tree) → Step copier.rules (f b b) t → t ≡ f b b
goes_back t (here (l, r, σ, h, e, e')) =
    e' ∙ each_listed copier.rules GoesBack
    (each_rule GoesBack (λ σ e. absurd (cc e)) (λ σ e. let k : σ 0 ≡ b = cc e in ap (λ z. f z z) k) (λ σ e. let k : σ 0 ≡ b = cc e in ap (λ z. f z z) k)
    (λ σ e. absurd (cc e))) (record { left = l; right = r }) h σ e
goes_back t (deep (first {t = u} d)) = absurd (constant_normal 1 (λ e. absurd (omega arith)) u d)
goes_back t (deep (later (first {t = u} d))) = absurd (constant_normal 1 (λ e. absurd (omega arith)) u d)
goes_back t (deep (later (later d))) = elim d [ ]

only_itself : (n : ℕ) (t v : Tree) → t ≡ f b b → Derivation (Step copier.rules) n t v → v ≡ f b b
only_itself zero t v e d = sym d ∙ e
only_itself (suc n) t v e (m, step, d) = only_itself n m v (goes_back m (subst (λ z. Step copier.rules z m) e step)) d

not_joinable : IsJoinable (Step copier.rules) c (f b b) → ⊥
not_joinable (v, (n, d), (m, d')) =
    let k : c ≡ f b b = normal_stays (Step copier.rules) c (constant_normal 2 (λ e. absurd (omega arith))) n v d ∙ only_itself m (f b b) v refl d' in
    absurd (cc k)

a_to_b : Step copier.rules a b
a_to_b = here (a, b, λ v. var v, in_rest (in_rest (in_rest in_first)), refl, refl)

copier_forked : IsForked copier
copier_forked = (
  f a a,
  c,
  f b b,
  (refl, ((refl, tt), ((refl, tt), tt))),
  (1, (c, here (f a a, c, λ v. var v, in_first, refl, refl), refl)),
  (2, (f b a, deep (first a_to_b), (f b b, deep (later (first a_to_b)), refl))),
  not_joinable,
)

-- The theorem on decreasing peaks wants right-linear rules.
right_linear_is_needed : IsSystem copier × AreLeftLinear copier.rules × Covers copier.rules copier_peaks
    × ((peak : Peak) → In peak copier_peaks → IsDecreasing copier.rules ranks peak) × IsForked copier
right_linear_is_needed = (copier_system, copier_left, copier_covers, copier_decreasing, copier_forked)
