-- Rules by their numbers, what the proofs use of them, and peaks as a relation.
use Rattle.std.proofs.Common.{ℕ, ◌≡◌, sym, ◌∙◌, ap, subst}
use Rattle.trs_defs.specs.Tree.{Tree, Trees, app}
use Rattle.trs_defs.specs.Substitution.{apply, apply_all}
use Rattle.trs_defs.specs.Step.{InsideOne, RootStep, StepBy}
use Rattle.confluence_theory.specs.Overlap.{OverlapOne}
use Rattle.trs_defs.proofs.EqualTerms.{app_root, app_args}

-- a step of some rule
abbrev pub AnyRule : (ℕ → Tree → Tree → Type 0) → Tree → Tree → Type 0
AnyRule rule s t = (i : ℕ) × StepBy (rule i) s t

-- one in an item of an argument list
abbrev pub AnyOne : (ℕ → Tree → Tree → Type 0) → Trees → Trees → Type 0
AnyOne rule ss ts = (i : ℕ) × InsideOne (RootStep (rule i)) ss ts

abbrev pub AnyRoot : (ℕ → Tree → Tree → Type 0) → Tree → Tree → Type 0
AnyRoot rule s t = (i : ℕ) × RootStep (rule i) s t

-- each number has at most one rule, of which the left side is no variable and has the variables of the right one
pub record IsFamily (rule : ℕ → Tree → Tree → Type 0) : Type 0 where
  pub root : (i : ℕ) (l r : Tree) → rule i l r → (f : ℕ) × (ts : Trees) × (l ≡ app f ts)
  pub one : (i : ℕ) (l r l' r' : Tree) → rule i l r → rule i l' r' → (l ≡ l') × (r ≡ r')
  pub same : (i : ℕ) (l r : Tree) → rule i l r → (σ τ : ℕ → Tree) → apply σ l ≡ apply τ l → apply σ r ≡ apply τ r

-- peaks i j top left right: a peak whose inner step, of rule i, goes to left, and whose outer step, of rule j, to right
abbrev pub HasInstance : (ℕ → ℕ → Tree → Tree → Tree → Type 0) → ℕ → ℕ → Tree → Tree → Tree → Type 0
HasInstance peaks i j s t u =
    (top : Tree) × (left : Tree) × (right : Tree) × (τ : ℕ → Tree)
    × peaks i j top left right × (s ≡ apply τ top) × (t ≡ apply τ left) × (u ≡ apply τ right)

-- what holds of the listed peaks, and goes on under substitutions, holds of their instances
pub of_instance : (peaks : ℕ → ℕ → Tree → Tree → Tree → Type 0) (closed : ℕ → ℕ → Tree → Tree → Type 0)
    → ((i j : ℕ) (τ : ℕ → Tree) (t u : Tree) → closed i j t u → closed i j (apply τ t) (apply τ u))
    → ((i j : ℕ) (top left right : Tree) → peaks i j top left right → closed i j left right)
    → (i j : ℕ) (s t u : Tree) → HasInstance peaks i j s t u → closed i j t u
of_instance peaks closed instance listed i j s t u (top, left, right, τ, p, e, e', e'') =
    let P : Tree → Type 0 = λ z. closed i j z u in
    let Q : Tree → Type 0 = λ z. closed i j (apply τ left) z in
    subst P (sym e') (subst Q (sym e'') (instance i j τ left right (listed i j top left right p)))

pub record CoversBy (rule : ℕ → Tree → Tree → Type 0) (peaks : ℕ → ℕ → Tree → Tree → Tree → Type 0) : Type 0 where
  pub at_root : (i j : ℕ) (l r t : Tree) (σ : ℕ → Tree) → rule j l r → ¬ (i ≡ j) → RootStep (rule i) (apply σ l) t → HasInstance peaks i j (apply σ l) t (apply σ r)
  pub below_root : (i j f : ℕ) (ls us : Trees) (r : Tree) (σ : ℕ → Tree) → rule j (app f ls) r → OverlapOne (RootStep (rule i)) σ ls us → HasInstance peaks i j (apply σ (app f ls)) (app f us) (apply σ r)

-- a redex of rule j, by its root and its arguments
pub record Redex (rule : ℕ → Tree → Tree → Type 0) (j f : ℕ) (ts : Trees) (u : Tree) : Type 0 where
  pub left : Trees
  pub right : Tree
  pub σ : ℕ → Tree
  pub is_rule : rule j (app f left) right
  pub arguments : ts ≡ apply_all σ left
  pub reduct : u ≡ apply σ right

module _ (rule : ℕ → Tree → Tree → Type 0) (family : IsFamily rule) where
  pub redex_of : (j f : ℕ) (ts : Trees) (u : Tree) → RootStep (rule j) (app f ts) u → Redex rule j f ts u
  redex_of j f ts u (l, r, σ, h, e, e') =
      let (g, ls, el) = family.root j l r h in
      let k : app f ts ≡ app g (apply_all σ ls) = e ∙ ap (apply σ) el in
      let hg : rule j (app g ls) r = (let P : Tree → Type 0 = λ z. rule j z r in subst P el h) in
      let hf : rule j (app f ls) r = (let P : ℕ → Type 0 = λ z. rule j (app z ls) r in subst P (sym (app_root k)) hg) in
      record { left = ls; right = r; σ = σ; is_rule = hf; arguments = app_args k; reduct = e' }

  -- one rule has one result at a root
  pub one_result : (i j : ℕ) (s t u : Tree) → i ≡ j → RootStep (rule i) s t → RootStep (rule j) s u → t ≡ u
  one_result i j s t u k (l, r, σ, h, e, e') (l₂, r₂, σ₂, h₂, e₂, e₂') =
      let h' : rule i l₂ r₂ = (let P : ℕ → Type 0 = λ z. rule z l₂ r₂ in subst P (sym k) h₂) in
      let (el, er) = family.one i l r l₂ r₂ h h' in
      let q : apply σ r ≡ apply σ₂ r = family.same i l r h σ σ₂ (sym e ∙ (e₂ ∙ ap (apply σ₂) (sym el))) in
      e' ∙ (q ∙ (ap (apply σ₂) er ∙ sym e₂'))
