-- Without left-linearity: f(x, x) -> a, f(x, g(x)) -> b, c -> g(c) has no critical peaks and linear right sides, and is not
-- confluent: f(c, c) goes to a, and by f(c, g(c)) to b.
use Rattle.std.specs.Prelude.{◌≡◌, ◌≢◌, ◌≤◌, ℕ, [], ◌∷◌, Some, IsTrue, slice_get}
use Rattle.std.proofs.Common.{zero, suc, refl, sym, ◌∙◌, ap, subst, arith}
use Rattle.trs_defs.specs.Member.{in_first, in_rest}
use Rattle.trs_defs.specs.Tree.{Tree, Trees, var, app, nil, cons}
use Rattle.trs_defs.specs.Size.{size_of}
use Rattle.trs_defs.specs.Variable.{has_var, occurrences}
use Rattle.trs_defs.specs.Substitution.{apply}
use Rattle.trs_defs.specs.NormalForm.{IsNormalForm}
use Rattle.trs_defs.specs.System.{RewriteRule, System, IsRule, IsSystem, Numbered}
use Rattle.confluence_theory.specs.Linear.{AreRightLinear}
use Rattle.confluence_theory.specs.Overlap.{Overlap, OverlapOne, overlap_here, overlap_deep, overlap_first, overlap_later}
use Rattle.confluence_theory.specs.Peak.{Covers}
use Rattle.trs_defs.specs.Step.{here, deep, first, later, RootStep, Step}
use Rattle.trs_defs.specs.Claims.{IsForked}
use Rattle.trs_defs.proofs.NormalForms.{forked_by_normal_forms}
use Rattle.confluence_theory.proofs.Constants.{sides, constant, each_listed, in_nothing}

abbrev g : Tree → Tree
g t = app 3 (cons t nil)

abbrev f : Tree → Tree → Tree
f t u = app 4 (cons t (cons u nil))

abbrev same_rule : RewriteRule
same_rule = record { left = f (var 0) (var 0); right = constant 0 }

abbrev next_rule : RewriteRule
next_rule = record { left = f (var 0) (g (var 0)); right = constant 1 }

abbrev grow_rule : RewriteRule
grow_rule = record { left = constant 2; right = g (constant 2) }

abbrev growing : System
growing = record { arities = 0 ∷ 0 ∷ 0 ∷ 1 ∷ 2 ∷ []; rules = same_rule ∷ next_rule ∷ grow_rule ∷ [] }

each_rule : (P : RewriteRule → Type 0) → P same_rule → P next_rule → P grow_rule → (k : ℕ) (r : RewriteRule) → slice_get growing.rules k ≡ Some r → P r
each_rule P x y z zero r e = subst P (cc e) x
each_rule P x y z (suc zero) r e = subst P (cc e) y
each_rule P x y z (suc (suc zero)) r e = subst P (cc e) z
each_rule P x y z (suc (suc (suc k))) r e = absurd cc

no_variable_in_constant : (l : Tree) (n v : ℕ) → IsTrue (has_var v (constant n)) → IsTrue (has_var v l)
no_variable_in_constant l n v h = absurd cc

growing_system : IsSystem growing
growing_system =
    record {
      each = each_rule (IsRule growing.arities)
          (record {
            left_well_formed = (refl, (tt, (tt, tt)));
            right_well_formed = (refl, tt);
            left_no_variable = λ v. absurd (cc v.1);
            variables = no_variable_in_constant same_rule.left 0;
          })
          (record {
            left_well_formed = (refl, (tt, ((refl, (tt, tt)), tt)));
            right_well_formed = (refl, tt);
            left_no_variable = λ v. absurd (cc v.1);
            variables = no_variable_in_constant next_rule.left 1;
          })
          (record {
            left_well_formed = (refl, tt);
            right_well_formed = (refl, ((refl, tt), tt));
            left_no_variable = λ v. absurd (cc v.1);
            variables = λ v h. absurd cc;
          });
    }

growing_right : AreRightLinear growing.rules
growing_right = each_rule (λ r. (v : ℕ) → occurrences v r.right ≤ 1) (λ v. omega arith) (λ v. omega arith) (λ v. omega arith)

no_own_argument : (t : Tree) → t ≡ g t → ⊥
no_own_argument t e = let k : size_of t ≡ size_of (g t) = ap size_of e in absurd (omega arith)

same_is_not_next : (σ ρ : ℕ → Tree) → f (σ 0) (σ 0) ≡ f (ρ 0) (g (ρ 0)) → ⊥
same_is_not_next σ ρ e = no_own_argument (ρ 0) (cc e)

-- instances of two left sides are not equal
apart : (i j : ℕ) (l r l' r' : Tree) (σ ρ : ℕ → Tree) → Numbered growing.rules j l r → Numbered growing.rules i l' r' → i ≢ j → apply σ l ≡ apply ρ l' → ⊥
apart zero zero l r l' r' σ ρ h h' n e = n refl
apart zero (suc zero) l r l' r' σ ρ h h' n e =
    same_is_not_next ρ σ (sym (ap (apply ρ) (sides same_rule l' r' h').0) ∙ (sym e ∙ ap (apply σ) (sides next_rule l r h).0))
apart (suc zero) zero l r l' r' σ ρ h h' n e =
    same_is_not_next σ ρ (sym (ap (apply σ) (sides same_rule l r h).0) ∙ (e ∙ ap (apply ρ) (sides next_rule l' r' h').0))
apart (suc zero) (suc zero) l r l' r' σ ρ h h' n e = n refl
apart (suc (suc zero)) (suc (suc zero)) l r l' r' σ ρ h h' n e = n refl
apart (suc (suc (suc i))) j l r l' r' σ ρ h h' n e = absurd cc
apart i (suc (suc (suc j))) l r l' r' σ ρ h h' n e = absurd cc
apart zero (suc (suc zero)) l r l' r' σ ρ h h' n e =
    let k : constant 2 ≡ f (ρ 0) (ρ 0) = sym (ap (apply σ) (sides grow_rule l r h).0) ∙ (e ∙ ap (apply ρ) (sides same_rule l' r' h').0) in absurd (cc k)
apart (suc zero) (suc (suc zero)) l r l' r' σ ρ h h' n e =
    let k : constant 2 ≡ f (ρ 0) (g (ρ 0)) = sym (ap (apply σ) (sides grow_rule l r h).0) ∙ (e ∙ ap (apply ρ) (sides next_rule l' r' h').0) in absurd (cc k)
apart (suc (suc zero)) zero l r l' r' σ ρ h h' n e =
    let k : constant 2 ≡ f (σ 0) (σ 0) = sym (ap (apply ρ) (sides grow_rule l' r' h').0) ∙ (sym e ∙ ap (apply σ) (sides same_rule l r h).0) in absurd (cc k)
apart (suc (suc zero)) (suc zero) l r l' r' σ ρ h h' n e =
    let k : constant 2 ≡ f (σ 0) (g (σ 0)) = sym (ap (apply ρ) (sides grow_rule l' r' h').0) ∙ (sym e ∙ ap (apply σ) (sides next_rule l r h).0) in absurd (cc k)

-- no left side has an instance with the root g
g_no_left : (i : ℕ) (l r t : Tree) (σ : ℕ → Tree) → Numbered growing.rules i l r → g t ≡ apply σ l → ⊥
g_no_left zero l r t σ h e = let k : g t ≡ f (σ 0) (σ 0) = e ∙ ap (apply σ) (sides same_rule l r h).0 in absurd (cc k)
g_no_left (suc zero) l r t σ h e = let k : g t ≡ f (σ 0) (g (σ 0)) = e ∙ ap (apply σ) (sides next_rule l r h).0 in absurd (cc k)
g_no_left (suc (suc zero)) l r t σ h e = let k : g t ≡ constant 2 = e ∙ ap (apply σ) (sides grow_rule l r h).0 in absurd (cc k)
g_no_left (suc (suc (suc i))) l r t σ h e = absurd cc

in_same : (R : Tree → Tree → Type 0) (σ : ℕ → Tree) (ts : Trees) → OverlapOne R σ (cons (var 0) (cons (var 0) nil)) ts → ⊥
in_same R σ ts (overlap_first d) = elim d [ ]
in_same R σ ts (overlap_later (overlap_first d)) = elim d [ ]
in_same R σ ts (overlap_later (overlap_later d)) = elim d [ ]

in_g : (i : ℕ) (σ : ℕ → Tree) (t : Tree) → Overlap (RootStep (Numbered growing.rules i)) σ (g (var 0)) t → ⊥
in_g i σ t (overlap_here (l, r, ρ, h, e, e')) = g_no_left i l r (σ 0) ρ h e
in_g i σ t (overlap_deep (overlap_first d)) = elim d [ ]
in_g i σ t (overlap_deep (overlap_later d)) = elim d [ ]

in_next : (i : ℕ) (σ : ℕ → Tree) (ts : Trees) → OverlapOne (RootStep (Numbered growing.rules i)) σ (cons (var 0) (cons (g (var 0)) nil)) ts → ⊥
in_next i σ ts (overlap_first d) = elim d [ ]
in_next i σ ts (overlap_later (overlap_first {t = t} d)) = in_g i σ t d
in_next i σ ts (overlap_later (overlap_later d)) = elim d [ ]

arguments : (i j s : ℕ) (ls ts : Trees) (r : Tree) (σ : ℕ → Tree) → Numbered growing.rules j (app s ls) r → OverlapOne (RootStep (Numbered growing.rules i)) σ ls ts → ⊥
arguments i zero s ls ts r σ h d =
    let e : app s ls ≡ same_rule.left = (sides same_rule (app s ls) r h).0 in
    in_same (RootStep (Numbered growing.rules i)) σ ts (subst (λ z. OverlapOne (RootStep (Numbered growing.rules i)) σ z ts) (cc e) d)
arguments i (suc zero) s ls ts r σ h d =
    let e : app s ls ≡ next_rule.left = (sides next_rule (app s ls) r h).0 in
    in_next i σ ts (subst (λ z. OverlapOne (RootStep (Numbered growing.rules i)) σ z ts) (cc e) d)
arguments i (suc (suc zero)) s ls ts r σ h d =
    let e : app s ls ≡ constant 2 = (sides grow_rule (app s ls) r h).0 in
    in_nothing (RootStep (Numbered growing.rules i)) σ ts (subst (λ z. OverlapOne (RootStep (Numbered growing.rules i)) σ z ts) (cc e) d)
arguments i (suc (suc (suc j))) s ls ts r σ h d = absurd cc

growing_covers : Covers growing.rules []
growing_covers =
    record {
      at_root = λ i j l r t σ h n (l', r', ρ, h', e, e'). absurd (apart i j l r l' r' σ ρ h h' n e);
      below_root = λ i j s ls ts r σ h d. absurd (arguments i j s ls ts r σ h d);
    }

abbrev HasOther : ℕ → RewriteRule → Type 0
HasOther s rule = (σ : ℕ → Tree) → constant s ≡ apply σ rule.left → ⊥

normal : (s : ℕ) → s ≢ 2 → IsNormalForm (Step growing.rules) (constant s)
normal s n u (here (l, r, σ, h, e, e')) =
    each_listed growing.rules (HasOther s) (each_rule (HasOther s) (λ σ e. absurd (cc e)) (λ σ e. absurd (cc e)) (λ σ e. n (cc e)))
    (record { left = l; right = r }) h σ e
normal s n u (deep d) = elim d [ ]

c_grows : Step growing.rules (constant 2) (g (constant 2))
c_grows = here (constant 2, g (constant 2), λ v. var v, in_rest (in_rest in_first), refl, refl)

growing_forked : IsForked growing
growing_forked =
    forked_by_normal_forms growing (f (constant 2) (constant 2)) (constant 0) (constant 1) (refl, ((refl, tt), ((refl, tt), tt)))
    (1, (constant 0, here (f (var 0) (var 0), constant 0, λ v. constant 2, in_first, refl, refl), refl)) (
      2,
      (
        f (constant 2) (g (constant 2)),
        deep (later (first c_grows)),
        (constant 1, here (f (var 0) (g (var 0)), constant 1, λ v. constant 2, in_rest in_first, refl, refl), refl),
      ),
    ) (normal 0 (λ e. absurd (omega arith))) (normal 1 (λ e. absurd (omega arith))) (λ e. absurd (cc e))

-- With no peak to close, the theorems on parallel closed, strongly closed and decreasing peaks want left-linear rules.
left_linear_is_needed : IsSystem growing × AreRightLinear growing.rules × Covers growing.rules [] × IsForked growing
left_linear_is_needed = (growing_system, growing_right, growing_covers, growing_forked)
