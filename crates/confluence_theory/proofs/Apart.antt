-- One substitution for two terms that are renamed apart, and the variables of a subterm.
use Rattle.std.specs.Prelude.{◌≡◌, ℕ, ◌+◌, ◌-◌, ◌<◌, List, [], ◌∷◌, Some, IsTrue, slice_get}
use Rattle.std.specs.Option.{option_and_then}
use Rattle.std.proofs.Common.{zero, suc, sym, ◌∙◌, ap, subst, refl, arith}
use native.Mathlib.Decide.{dec_lt}
use Rattle.trs_defs.specs.Tree.{Tree, Trees, var, app, nil, cons, items}
use Rattle.trs_defs.specs.Variable.{has_var, some_has_var}
use Rattle.trs_defs.specs.Renaming.{shifted}
use Rattle.trs_defs.specs.Substitution.{apply}
use Rattle.trs_defs.specs.Position.{subterm_at}
use Rattle.trs_defs.proofs.Substitutions.{apply_apply, same_instance}
use Rattle.trs_defs.proofs.VariableLaws.{has_var_first, has_var_rest}

-- σ below k, and ρ from there on
abbrev pub glue : ℕ → (ℕ → Tree) → (ℕ → Tree) → ℕ → Tree
glue k σ ρ x = elim (dec_lt x k) [ yes h ↦ σ x | no h ↦ ρ (x - k) ]

pub glue_low : (k : ℕ) (σ ρ : ℕ → Tree) (x : ℕ) → x < k → glue k σ ρ x ≡ σ x
glue_low k σ ρ x h = elim (dec_lt x k) as (λ d. elim d [ yes h ↦ σ x | no h ↦ ρ (x - k) ] ≡ σ x) [ yes l ↦ refl | no l ↦ absurd (l h) ]

pub glue_high : (k : ℕ) (σ ρ : ℕ → Tree) (x : ℕ) → glue k σ ρ (k + x) ≡ ρ x
glue_high k σ ρ x =
    elim (dec_lt (k + x) k) as (λ d. elim d [ yes h ↦ σ (k + x) | no h ↦ ρ (k + x - k) ] ≡ ρ x) [
      | yes l ↦ absurd (omega arith)
      | no l ↦ ap ρ (omega arith)
    ]

pub apply_high : (k : ℕ) (σ ρ : ℕ → Tree) (t : Tree) → apply (glue k σ ρ) (shifted k t) ≡ apply ρ t
apply_high k σ ρ t =
    apply_apply (glue k σ ρ) (λ x. var (k + x)) t ∙ same_instance (λ x. glue k σ ρ (k + x)) ρ t (λ v h. glue_high k σ ρ v)

-- the variables of a subterm are the term's
item_variable : (p : List ℕ) (ts : Trees) (i : ℕ) (part : Tree) (v : ℕ) → option_and_then (subterm_at p) (slice_get (items ts) i) ≡ Some part
    → ((a : Tree) → subterm_at p a ≡ Some part → IsTrue (has_var v a)) → IsTrue (some_has_var v ts)
item_variable p nil i part v e h = absurd cc
item_variable p (cons t ts) zero part v e h = has_var_first v t ts (h t e)
item_variable p (cons t ts) (suc i) part v e h = has_var_rest v t ts (item_variable p ts i part v e h)

pub part_variable : (p : List ℕ) (t part : Tree) (v : ℕ) → subterm_at p t ≡ Some part → IsTrue (has_var v part) → IsTrue (has_var v t)
part_variable [] t part v e h = let same : part ≡ t = cc e in subst (λ z. IsTrue (has_var v z)) same h
part_variable (place ∷ p) (var n) part v e h = absurd cc
part_variable (zero ∷ p) (app f ts) part v e h = absurd cc
part_variable (suc i ∷ p) (app f ts) part v e h = item_variable p ts i part v e (λ a k. part_variable p a part v k h)

-- an instance of a term whose variables were renumbered
pub renumbered : (θ τ m : ℕ → Tree) (names : ℕ → ℕ) (s t : Tree) → ((v : ℕ) → θ v ≡ apply τ (m v)) → apply m s ≡ apply (λ v. var (names v)) t
    → apply θ s ≡ apply (λ v. τ (names v)) t
renumbered θ τ m names s t e h =
    same_instance θ (λ v. apply τ (m v)) s (λ v k. e v) ∙ (sym (apply_apply τ m s) ∙ (ap (apply τ) h ∙ apply_apply τ (λ v. var (names v)) t))
