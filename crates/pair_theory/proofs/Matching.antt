-- Equality of terms and matching are decidable.
use Rattle.std.proofs.Common.{◌≡◌, ℕ, refl, sym, ap, subst, ◌∙◌, ◌⊎◌, inl, inr}
use native.Mathlib.Decide.{ℕ_discrete}
use Rattle.trs_defs.specs.Tree.{Tree, var, app, Trees, nil, cons}
use Rattle.trs_defs.specs.Substitution.{apply, apply_all}
use Rattle.trs_defs.proofs.EqualTerms.{join_app, join_cons}
use Rattle.trs_defs.proofs.Substitutions.{same_instance}
use Rattle.pair_theory.proofs.Subterms.{not_in_nil, head_or_tail, var_in_var, below_root, sub_of_has}
use Rattle.pair_theory.specs.Subterm.{Sub, itself, under, Subs, in_head, in_tail}

both : {A B C : Type 0} → (A → B → C) → (C → A) → (C → B) → Dec A → Dec B → Dec C
both f g h (yes a) (yes b) = yes (f a b)
both f g h (yes a) (no n) = no (λ c. n (h c))
both f g h (no n) b = no (λ c. n (g c))

var_of : Tree → ℕ
var_of (var x) = x
var_of (app f ts) = f

same_var : (x y : ℕ) → Dec (x ≡ y) → Dec (var x ≡ var y)
unfolding var_of
same_var x y (yes e) = yes (ap var e)
same_var x y (no n) = no (λ e. n (ap var_of e))

mutual
  pub same_term : (s t : Tree) → Dec (s ≡ t)
  same_term (var x) (var y) = same_var x y (ℕ_discrete x y)
  same_term (var x) (app g ts) = no (λ e. cc)
  same_term (app f ss) (var y) = no (λ e. cc)
  same_term (app f ss) (app g ts) = both join_app (λ e. cc) (λ e. cc) (ℕ_discrete f g) (same_terms ss ts)

  pub same_terms : (ss ts : Trees) → Dec (ss ≡ ts)
  same_terms nil nil = yes refl
  same_terms nil (cons t ts) = no (λ e. cc)
  same_terms (cons s ss) nil = no (λ e. cc)
  same_terms (cons s ss) (cons t ts) = both join_cons (λ e. cc) (λ e. cc) (same_term s t) (same_terms ss ts)

map_dec : {A B : Type 0} → (A → B) → (B → A) → Dec A → Dec B
map_dec f g (yes a) = yes (f a)
map_dec f g (no n) = no (λ b. n (g b))

either : {A B C : Type 0} → (A → C) → (B → C) → (C → A ⊎ B) → Dec A → Dec B → Dec C
either f g h (yes a) b = yes (f a)
either f g h (no n) (yes b) = yes (g b)
either f g h (no n) (no m) = no (λ c. elim (h c) [ inl a ↦ n a | inr b ↦ m b ])

mutual
  pub occurs : (x : ℕ) (t : Tree) → Dec (Sub (var x) t)
  occurs x (var y) = map_dec (λ e. subst (λ z. Sub (var x) (var z)) e itself) var_in_var (ℕ_discrete x y)
  occurs x (app f ts) = map_dec under below_root (occur x ts)

  pub occur : (x : ℕ) (ts : Trees) → Dec (Subs (var x) ts)
  occur x nil = no not_in_nil
  occur x (cons t ts) = either in_head in_tail head_or_tail (occurs x t) (occur x ts)

abbrev pub pick : {A B : Type 0} → Dec A → B → B → B
pick (yes a) x y = x
pick (no n) x y = y

-- what x must be, where a substitution takes the pattern to the term
abbrev mutual
  pub candidate : ℕ → Tree → Tree → Tree
  candidate x (var y) t = t
  candidate x (app f ls) (var y) = var x
  candidate x (app f ls) (app g ts) = candidate_in x ls ts

  pub candidate_in : ℕ → Trees → Trees → Tree
  candidate_in x nil ts = var x
  candidate_in x (cons l ls) nil = var x
  candidate_in x (cons l ls) (cons t ts) = pick (occurs x l) (candidate x l t) (candidate_in x ls ts)

pick_spec : {A : Type 0} (d : Dec A) (x y z : Tree) → (A → x ≡ z) → ((A → ⊥) → y ≡ z) → pick d x y ≡ z
pick_spec (yes a) x y z f g = f a
pick_spec (no n) x y z f g = g n

later_one : {s t : Tree} {ts : Trees} → Subs s (cons t ts) → (Sub s t → ⊥) → Subs s ts
later_one (in_head p) n = absurd (n p)
later_one (in_tail p) n = p

mutual
  candidate_is : (x : ℕ) (l : Tree) (τ : ℕ → Tree) → Sub (var x) l → candidate x l (apply τ l) ≡ τ x
  candidate_is x (var y) τ p = ap τ (sym (var_in_var p))
  candidate_is x (app f ls) τ p = candidate_in_is x ls τ (below_root p)

  candidate_in_is : (x : ℕ) (ls : Trees) (τ : ℕ → Tree) → Subs (var x) ls → candidate_in x ls (apply_all τ ls) ≡ τ x
  candidate_in_is x nil τ p = absurd (not_in_nil p)
  candidate_in_is x (cons l ls) τ p = pick_spec (occurs x l) _ _ _ (candidate_is x l τ) (λ n. candidate_in_is x ls τ (later_one p n))

-- substitutions that agree on the variables of a term give it one instance
pub same_apply : (t : Tree) (σ τ : ℕ → Tree) → ((x : ℕ) → Sub (var x) t → σ x ≡ τ x) → apply σ t ≡ apply τ t
same_apply t σ τ h = same_instance σ τ t (λ v k. h v (sub_of_has v t k))

-- the substitution that matching finds
abbrev pub found : Tree → Tree → ℕ → Tree
found l s x = candidate x l s

pub matched : (l s : Tree) (τ : ℕ → Tree) → s ≡ apply τ l → (x : ℕ) → Sub (var x) l → found l s x ≡ τ x
matched l s τ e x p = ap (λ t. candidate x l t) e ∙ candidate_is x l τ p

pub matches : (l s : Tree) → Dec ((σ : ℕ → Tree) × s ≡ apply σ l)
matches l s = map_dec (λ e. (found l s, e)) (λ m. m.1 ∙ sym (same_apply l _ _ (matched l s m.0 m.1))) (same_term s (apply (found l s) l))
