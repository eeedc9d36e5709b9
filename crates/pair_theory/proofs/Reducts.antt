-- A term has finitely many reducts, so that what terminates has a bound.
use Rattle.std.proofs.Common.{◌≡◌, ℕ, suc, refl, sym, subst, ◌∙◌, ◌⊎◌, inl, inr, List, [], ◌∷◌, ◌++◌, map}
use Rattle.trs_defs.specs.Tree.{Tree, var, app, Trees, nil, cons}
use Rattle.trs_defs.specs.Substitution.{apply}
use Rattle.trs_defs.specs.Step.{StepBy, here, deep, first, later}
use Rattle.pair_theory.specs.Terminates.{ArgumentStep, Terminates}
use Rattle.trs_defs.specs.Bounded.{IsBounded, IsBoundedBy}
use Rattle.trs_defs.specs.System.{RewriteRule, Among}
use Rattle.trs_defs.specs.Member.{In, in_first, in_rest}
use Rattle.pair_theory.specs.Subterm.{Sub}
use Rattle.trs_defs.proofs.Members.{in_left, in_right, in_either, in_or, in_case, no_in, in_map, of_map}
use Rattle.trs_defs.proofs.BoundLaws.{bound_of_each}
use Rattle.pair_theory.proofs.Accessibility.{acc_induction}
use Rattle.pair_theory.proofs.Matching.{found, matched, matches, same_apply}

abbrev pub Finite : {A : Type 0} → (A → Type 0) → Type 0
Finite {A} R = (us : List A) × ((a : A) → R a → In a us) × ((a : A) → In a us → R a)

finite_none : {A : Type 0} (R : A → Type 0) → ((a : A) → R a → ⊥) → Finite R
finite_none R none = ([], (λ a r. absurd (none a r)), (λ a i. absurd (no_in i)))

finite_one : {A : Type 0} (b : A) → Finite (λ a. a ≡ b)
finite_one b = (
  b ∷ [],
  (λ a e. subst (λ z. In z (b ∷ [])) (sym e) in_first),
  (λ a i. elim (in_or i) [ inl e ↦ e | inr j ↦ absurd (no_in j) ]),
)

finite_or : {A : Type 0} (R S : A → Type 0) → Finite R → Finite S → Finite (λ a. R a ⊎ S a)
finite_or R S u v = (
  u.0 ++ v.0,
  (λ a h. elim h [ inl r ↦ in_left v.0 (u.1 a r) | inr s ↦ in_right u.0 (v.1 a s) ]),
  (λ a i. elim (in_either u.0 v.0 i) [ inl j ↦ inl (u.2 a j) | inr j ↦ inr (v.2 a j) ]),
)

finite_image : {A B : Type 0} (f : A → B) (R : A → Type 0) → Finite R → Finite (λ b. (a : A) × R a × (b ≡ f a))
finite_image f R u = (
  map f u.0,
  (λ b h. subst (λ z. In z (map f u.0)) (sym h.2) (in_map f (u.1 h.0 h.1))),
  (λ b i. let o : (a : _) × In a u.0 × (b ≡ f a) = of_map f u.0 i in (o.0, u.2 o.0 o.1, o.2)),
)

finite_same : {A : Type 0} (R S : A → Type 0) → ((a : A) → R a → S a) → ((a : A) → S a → R a) → Finite R → Finite S
finite_same R S to from u = (u.0, (λ a s. u.1 a (from a s)), (λ a i. to a (u.2 a i)))

-- s goes to u at the root by this rule
abbrev pub ByRule : RewriteRule → Tree → Tree → Type 0
ByRule p s u = (σ : ℕ → Tree) × (s ≡ apply σ p.left) × (u ≡ apply σ p.right)

abbrev pub AtRoot : List RewriteRule → Tree → Tree → Type 0
AtRoot rs s u = (p : RewriteRule) × In p rs × ByRule p s u

abbrev pub NoNewVariables : RewriteRule → Type 0
NoNewVariables p = (x : ℕ) → Sub (var x) p.right → Sub (var x) p.left

by_rule : (p : RewriteRule) → NoNewVariables p → (s : Tree) → Finite (ByRule p s)
by_rule p fine s = go (matches p.left s)
  where
    go : Dec ((σ : ℕ → Tree) × s ≡ apply σ p.left) → Finite (ByRule p s)
    go (yes m) = finite_same (λ u. u ≡ apply (found p.left s) p.right) (ByRule p s)
        (λ u e. (m.0, m.1, e ∙ same_apply p.right _ _ (λ x q. matched p.left s m.0 m.1 x (fine x q))))
        (λ u b. b.2 ∙ sym (same_apply p.right _ _ (λ x q. matched p.left s b.0 b.1 x (fine x q))))
        (finite_one (apply (found p.left s) p.right))
    go (no n) = finite_none (ByRule p s) (λ u b. n (b.0, b.1))

at_root : (rs : List RewriteRule) → ((p : RewriteRule) → In p rs → NoNewVariables p) → (s : Tree) → Finite (AtRoot rs s)
at_root [] fine s = finite_none (AtRoot [] s) (λ u b. no_in b.1)
at_root (p ∷ rs) fine s =
    finite_same (λ u. ByRule p s u ⊎ AtRoot rs s u) (AtRoot (p ∷ rs) s) put split
    (finite_or (ByRule p s) (AtRoot rs s) (by_rule p (fine p in_first) s) (at_root rs (λ q i. fine q (in_rest i)) s))
  where
    put : (u : Tree) → ByRule p s u ⊎ AtRoot rs s u → AtRoot (p ∷ rs) s u
    put u (inl b) = (p, in_first, b)
    put u (inr (q, i, b)) = (q, in_rest i, b)

    case : (u : Tree) (q : RewriteRule) → ByRule p s u ⊎ (ByRule q s u × In q rs) → ByRule p s u ⊎ AtRoot rs s u
    case u q (inl b) = inl b
    case u q (inr c) = inr (q, c.1, c.0)

    split : (u : Tree) → AtRoot (p ∷ rs) s u → ByRule p s u ⊎ AtRoot rs s u
    split u b = case u b.0 (in_case (λ q. ByRule q s u) b.1 b.2)

-- a step, by cases on the term
module _ (rs : List RewriteRule) where
  var_to : (x : ℕ) (u : Tree) → AtRoot rs (var x) u → StepBy (Among rs) (var x) u
  var_to x u b = here (b.0.left, b.0.right, b.2.0, b.1, b.2.1, b.2.2)

  root_only : {x : ℕ} {u : Tree} → StepBy (Among rs) (var x) u → AtRoot rs (var x) u
  root_only (here (l, r, σ, i, e, e')) = (record { left = l; right = r }, i, (σ, e, e'))

  abbrev Below : ℕ → Trees → Tree → Type 0
  Below f ts u = (us : Trees) × ArgumentStep (Among rs) ts us × (u ≡ app f us)

  app_to : (f : ℕ) (ts : Trees) (u : Tree) → AtRoot rs (app f ts) u ⊎ Below f ts u → StepBy (Among rs) (app f ts) u
  app_to f ts u (inl b) = here (b.0.left, b.0.right, b.2.0, b.1, b.2.1, b.2.2)
  app_to f ts u (inr c) = subst (StepBy (Among rs) (app f ts)) (sym c.2) (deep c.1)

  app_from : {f : ℕ} {ts : Trees} {u : Tree} → StepBy (Among rs) (app f ts) u → AtRoot rs (app f ts) u ⊎ Below f ts u
  app_from (here (l, r, σ, i, e, e')) = inl (record { left = l; right = r }, i, (σ, e, e'))
  app_from (deep s) = inr (_, s, refl)

  abbrev First : Tree → Trees → Trees → Type 0
  First t ts us = (t' : Tree) × StepBy (Among rs) t t' × (us ≡ cons t' ts)

  abbrev Later : Tree → Trees → Trees → Type 0
  Later t ts us = (ts' : Trees) × ArgumentStep (Among rs) ts ts' × (us ≡ cons t ts')

  cons_to : (t : Tree) (ts us : Trees) → First t ts us ⊎ Later t ts us → ArgumentStep (Among rs) (cons t ts) us
  cons_to t ts us (inl c) = subst (ArgumentStep (Among rs) (cons t ts)) (sym c.2) (first c.1)
  cons_to t ts us (inr c) = subst (ArgumentStep (Among rs) (cons t ts)) (sym c.2) (later c.1)

  cons_from : {t : Tree} {ts us : Trees} → ArgumentStep (Among rs) (cons t ts) us → First t ts us ⊎ Later t ts us
  cons_from (first s) = inl (_, s, refl)
  cons_from (later s) = inr (_, s, refl)

  nil_from : {us : Trees} → ArgumentStep (Among rs) nil us → ⊥
  nil_from s = elim s [ ]

  module _ (fine : (p : RewriteRule) → In p rs → NoNewVariables p) where
    mutual
      pub reducts : (t : Tree) → Finite (StepBy (Among rs) t)
      reducts (var x) = finite_same (AtRoot rs (var x)) (StepBy (Among rs) (var x)) (var_to x) (λ u s. root_only s) (at_root rs fine (var x))
      reducts (app f ts) =
          finite_same (λ u. AtRoot rs (app f ts) u ⊎ Below f ts u) (StepBy (Among rs) (app f ts)) (app_to f ts) (λ u s. app_from s)
          (finite_or (AtRoot rs (app f ts)) (Below f ts) (at_root rs fine (app f ts)) (finite_image (app f) (ArgumentStep (Among rs) ts) (reducts_each ts)))

      pub reducts_each : (ts : Trees) → Finite (ArgumentStep (Among rs) ts)
      reducts_each nil = finite_none (ArgumentStep (Among rs) nil) (λ us s. nil_from s)
      reducts_each (cons t ts) =
          finite_same (λ u. First t ts u ⊎ Later t ts u) (ArgumentStep (Among rs) (cons t ts)) (cons_to t ts) (λ u s. cons_from s)
          (finite_or (First t ts) (Later t ts) (finite_image (λ t'. cons t' ts) (StepBy (Among rs) t) (reducts t)) (finite_image (cons t) (ArgumentStep (Among rs) ts) (reducts_each ts)))

    -- one number serves for all reducts, and one more for the term
    pub bounded : {t : Tree} → Terminates (Among rs) t → IsBounded (StepBy (Among rs)) t
    bounded a = acc_induction {P = IsBounded (StepBy (Among rs))}
        (λ t below rec.
        let us : Finite (StepBy (Among rs) t) = reducts t in
        let m : (n : ℕ) × ((u : Tree) → In u us.0 → IsBoundedBy (StepBy (Among rs)) n u) = bound_of_each (StepBy (Among rs)) us.0 (λ u i. rec u (us.2 u i)) in
        (suc m.0, λ u s. m.1 u (us.1 u s)))
        a
