-- Sizes of instances of right sides: as they are found, and as those of the terms of a peak.
use Rattle.std.proofs.Common.{◌≡◌, ◌<◌, ℕ, List, Option, Some, None, IfSome, IfNone, IsTrue, false, length, get_or, ap, sym, ◌∙◌, subst}
use Rattle.trs_defs.specs.Tree.{Tree, var, app}
use Rattle.trs_defs.specs.Position.{replaced_at}
use Rattle.trs_defs.specs.Renaming.{shifted}
use Rattle.trs_defs.specs.Size.{size_of, within_limits}
use Rattle.trs_defs.specs.Substitution.{apply}
use Rattle.trs_defs.proofs.VariableLaws.{has_var_self}
use Rattle.trs_core.specs.SystemLimits.{HasSmallVariables}
use Rattle.trs_core.specs.View.{tree, forest}
use Rattle.trs_core.specs.declared.terms.Term.{Term}
use Rattle.trs_unify.proofs.Rooms.{argument_has}
use Rattle.crit_pairs.specs.SideSizes.{IsSmallOf}
use Rattle.crit_pairs.specs.Sides.{AreCounted}
use Rattle.crit_pairs.proofs.PooledSides.{not_shifted}

pub variable_small : (v : ℕ) (t : Tree) → t ≡ var v → HasSmallVariables t → v < 65536
variable_small v t is small = small v (rw is (has_var_self v))

pub argument_small : (f : ℕ) (t : Tree) (args : List Term) (i : ℕ) (arg : Term) → t ≡ app f (forest args) → HasSmallVariables t → i < length args → arg ≡ get_or args i arg → HasSmallVariables (tree arg)
argument_small f t args i arg is small within read v has = small v (rw is (argument_has v args i arg within read has))

-- a side whose variables are meant as they are
module _ (σ τ : ℕ → Tree) (from : ℕ) (t : Tree) (same : σ ≡ τ) (zero : from ≡ 0) where
  unshifted : apply τ t ≡ apply σ (shifted from t)
  unshifted = ap (λ s. apply s t) (sym same) ∙ ap (apply σ) (sym (ap (λ k. shifted k t) zero ∙ not_shifted t))

  pub unshifted_large : (answer : Option ℕ) → IfNone answer (within_limits (apply τ t) ≡ false) → IfNone answer (within_limits (apply σ (shifted from t)) ≡ false)
  unshifted_large answer h = subst (λ u. IfNone answer (within_limits u ≡ false)) unshifted h

  pub unshifted_small : (answer : Option ℕ) → IfSome answer (λ n. IsTrue (within_limits (apply τ t))) → IfSome answer (λ n. n ≡ size_of (apply τ t)) → IfSome answer (IsSmallOf (apply σ (shifted from t)))
  unshifted_small (Some n) small size = subst (λ u. IsSmallOf u n) unshifted (small, size)
  unshifted_small None small size = tt

-- the sizes of the inner and of the outer right side are those that were asked for
pub sides_counted : (σ : ℕ → Tree) (left by right : Tree) (place : List ℕ) (answer first second : Option ℕ) (put other : ℕ)
    → first ≡ Some put → IfSome first (IsSmallOf (apply σ by)) → second ≡ Some other → IfSome second (IsSmallOf (apply σ (shifted 0 right)))
    → IfSome answer (λ n. (b r u : Tree) → IsSmallOf (apply σ b) put → IsSmallOf (apply σ r) other → replaced_at place left b ≡ Some u → AreCounted (apply σ left) (apply σ u) (apply σ r) n)
    → IfSome answer (λ n. (u : Tree) → replaced_at place left by ≡ Some u → AreCounted (apply σ left) (apply σ u) (apply σ right) n)
sides_counted σ left by right place (Some n) first second put other is_first h is_second k counts =
    λ u replaced.
    counts by right u (subst (λ o. IfSome o (IsSmallOf (apply σ by))) is_first h)
    (subst (λ t. IsSmallOf (apply σ t) other) (not_shifted right) (subst (λ o. IfSome o (IsSmallOf (apply σ (shifted 0 right)))) is_second k)) replaced
sides_counted σ left by right place None first second put other is_first h is_second k counts = tt
