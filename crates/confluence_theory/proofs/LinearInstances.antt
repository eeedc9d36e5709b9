-- A step in an instance of a linear pattern, and its copies in an instance of a linear term.
use Rattle.std.proofs.Common.{ℕ, ◌≡◌, ◌⊎◌, inl, inr, refl, sym, ◌∙◌, ap, subst}
use native.Mathlib.Decide.{ℕ_discrete}
use Rattle.confluence_theory.proofs.Free.{IsFree, AreFree, IsSeparate, AreSeparate}
use Rattle.confluence_theory.specs.Overlap.{Overlap, OverlapOne, overlap_here, overlap_deep, overlap_first, overlap_later}
use Rattle.trs_defs.specs.Run.{AtMostOne, Same, Once}
use Rattle.trs_defs.specs.Step.{Inside, InsideOne, here, deep, first, later}
use Rattle.trs_defs.specs.Substitution.{apply, apply_all}
use Rattle.trs_defs.specs.Tree.{Tree, Trees, var, app, nil, cons}
use Rattle.confluence_theory.proofs.Substitutions.{but, but_at, apply_free, apply_all_free}

-- a step below a variable of the pattern
pub record Moved (R : Tree → Tree → Type 0) (σ : ℕ → Tree) (l u : Tree) : Type 0 where
  pub x : ℕ
  pub y : Tree
  pub step : Inside R (σ x) y
  pub occurs : ¬ IsFree x l
  pub moved : u ≡ apply (but σ x y) l

pub record MovedOne (R : Tree → Tree → Type 0) (σ : ℕ → Tree) (ls us : Trees) : Type 0 where
  pub x : ℕ
  pub y : Tree
  pub step : Inside R (σ x) y
  pub occurs : ¬ AreFree x ls
  pub moved : us ≡ apply_all (but σ x y) ls

moved_deep : {R : Tree → Tree → Type 0} {σ : ℕ → Tree} {f : ℕ} {ls us : Trees} → OverlapOne R σ ls us ⊎ MovedOne R σ ls us → Overlap R σ (app f ls) (app f us) ⊎ Moved R σ (app f ls) (app f us)
moved_deep (inl o) = inl (overlap_deep o)
moved_deep {f = f} (inr m) = inr (record { x = m.x; y = m.y; step = m.step; occurs = m.occurs; moved = ap (λ vs. app f vs) m.moved })

moved_first : {R : Tree → Tree → Type 0} {σ : ℕ → Tree} {l u : Tree} {ls : Trees} → ((x : ℕ) → IsFree x l ⊎ AreFree x ls) → Overlap R σ l u ⊎ Moved R σ l u → OverlapOne R σ (cons l ls) (cons u (apply_all σ ls)) ⊎ MovedOne R σ (cons l ls) (cons u (apply_all σ ls))
moved_first apart (inl o) = inl (overlap_first o)
moved_first {σ = σ} {l = l} {u = u} {ls = ls} apart (inr m) =
    let free : AreFree m.x ls = elim (apart m.x) [ inl a ↦ absurd (m.occurs a) | inr b ↦ b ] in
    inr (record {
      x = m.x;
      y = m.y;
      step = m.step;
      occurs = λ h. m.occurs h.0;
      moved = ap (λ v. cons v (apply_all σ ls)) m.moved ∙ ap (λ vs. cons (apply (but σ m.x m.y) l) vs) (sym (apply_all_free σ m.x m.y ls free));
    })

moved_later : {R : Tree → Tree → Type 0} {σ : ℕ → Tree} {l : Tree} {ls us : Trees} → ((x : ℕ) → IsFree x l ⊎ AreFree x ls) → OverlapOne R σ ls us ⊎ MovedOne R σ ls us → OverlapOne R σ (cons l ls) (cons (apply σ l) us) ⊎ MovedOne R σ (cons l ls) (cons (apply σ l) us)
moved_later apart (inl o) = inl (overlap_later o)
moved_later {σ = σ} {l = l} {ls = ls} {us = us} apart (inr m) =
    let free : IsFree m.x l = elim (apart m.x) [ inl a ↦ a | inr b ↦ absurd (m.occurs b) ] in
    inr (record {
      x = m.x;
      y = m.y;
      step = m.step;
      occurs = λ h. m.occurs h.1;
      moved = ap (λ vs. cons (apply σ l) vs) m.moved ∙ ap (λ v. cons v (apply_all (but σ m.x m.y) ls)) (sym (apply_free σ m.x m.y l free));
    })

-- a step in an instance of a linear pattern
mutual
  pub split : (R : Tree → Tree → Type 0) (σ : ℕ → Tree) (l u : Tree) → IsSeparate l → Inside R (apply σ l) u → Overlap R σ l u ⊎ Moved R σ l u
  split R σ (var x) u h d = inr (record { x = x; y = u; step = d; occurs = λ k. k refl; moved = sym (but_at σ x u) })
  split R σ (app f ls) u h (here r) = inl (overlap_here r)
  split R σ (app f ls) u h (deep {ts = us} d) = moved_deep (split_all R σ ls us h d)

  pub split_all : (R : Tree → Tree → Type 0) (σ : ℕ → Tree) (ls us : Trees) → AreSeparate ls → InsideOne R (apply_all σ ls) us → OverlapOne R σ ls us ⊎ MovedOne R σ ls us
  split_all R σ nil us h d = elim d [ ]
  split_all R σ (cons l ls) us h (first {t = u} d) = moved_first h.2 (split R σ l u h.0 d)
  split_all R σ (cons l ls) us h (later {ts = vs} d) = moved_later h.2 (split_all R σ ls vs h.1 d)

deep_once : {R : Tree → Tree → Type 0} (f : ℕ) {ts us : Trees} → AtMostOne (InsideOne R) ts us → AtMostOne (Inside R) (app f ts) (app f us)
deep_once f Same = Same
deep_once f (Once d) = Once (deep d)

first_once : {R : Tree → Tree → Type 0} {t u : Tree} (ts us : Trees) → ts ≡ us → AtMostOne (Inside R) t u → AtMostOne (InsideOne R) (cons t ts) (cons u us)
first_once {R} {t} {u} ts us e Same = let P : Trees → Type 0 = λ vs. AtMostOne (InsideOne R) (cons t ts) (cons t vs) in subst P e Same
first_once {R} {t} {u} ts us e (Once d) = let P : Trees → Type 0 = λ vs. AtMostOne (InsideOne R) (cons t ts) (cons u vs) in subst P e (Once (first d))

later_once : {R : Tree → Tree → Type 0} (t u : Tree) {ts us : Trees} → t ≡ u → AtMostOne (InsideOne R) ts us → AtMostOne (InsideOne R) (cons t ts) (cons u us)
later_once {R} t u {ts} {us} e Same = let P : Tree → Type 0 = λ v. AtMostOne (InsideOne R) (cons t ts) (cons v ts) in subst P e Same
later_once {R} t u {ts} {us} e (Once d) = let P : Tree → Type 0 = λ v. AtMostOne (InsideOne R) (cons t ts) (cons v us) in subst P e (Once (later d))

-- a step below a variable is at most one step in an instance of a linear term
mutual
  pub copies : (R : Tree → Tree → Type 0) (σ : ℕ → Tree) (x : ℕ) (y : Tree) → Inside R (σ x) y → (t : Tree) → IsSeparate t → AtMostOne (Inside R) (apply σ t) (apply (but σ x y) t)
  copies R σ x y d (var z) h =
      elim (ℕ_discrete x z) as (λ c. AtMostOne (Inside R) (σ z) (elim c [ yes e ↦ y | no e ↦ σ z ])) [
        | yes e ↦ let P : ℕ → Type 0 = λ k. Inside R (σ k) y in Once (subst P e d)
        | no e ↦ Same
      ]
  copies R σ x y d (app f ts) h = deep_once f (copies_all R σ x y d ts h)

  pub copies_all : (R : Tree → Tree → Type 0) (σ : ℕ → Tree) (x : ℕ) (y : Tree) → Inside R (σ x) y → (ts : Trees) → AreSeparate ts → AtMostOne (InsideOne R) (apply_all σ ts) (apply_all (but σ x y) ts)
  copies_all R σ x y d nil h = Same
  copies_all R σ x y d (cons t ts) h =
      elim (h.2 x) [
        | inl a ↦ later_once (apply σ t) (apply (but σ x y) t) (sym (apply_free σ x y t a)) (copies_all R σ x y d ts h.1)
        | inr b ↦ first_once (apply_all σ ts) (apply_all (but σ x y) ts) (sym (apply_all_free σ x y ts b)) (copies R σ x y d t h.0)
      ]
