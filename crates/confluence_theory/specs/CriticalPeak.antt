-- Critical peaks. (Baader and Nipkow, section 6.2.)
use Rattle.std.specs.Prelude.{◌≡◌, ◌≢◌, ◌<◌, ℕ, Bool, ◌||◌, List, [], Some, IsTrue, slice_get}
use Rattle.trs_defs.specs.Member.{In}
use Rattle.trs_defs.specs.Tree.{Tree, var}
use Rattle.trs_defs.specs.Variable.{has_var, IsVariable}
use Rattle.trs_defs.specs.Substitution.{apply}
use Rattle.trs_defs.specs.Renaming.{shifted}
use Rattle.trs_defs.specs.Position.{subterm_at, replaced_at}
use Rattle.trs_defs.specs.System.{RewriteRule}
use Rattle.trs_defs.specs.Unifier.{IsMostGeneralUnifier}
use Rattle.confluence_theory.specs.Peak.{Peak}

-- whether the variable occurs in the peak's top, left or right
abbrev pub occurs_in_peak : ℕ → Peak → Bool
occurs_in_peak v peak = has_var v peak.top || (has_var v peak.left || has_var v peak.right)

-- at the position p of the outer left side stands `part`, which has a most general unifier with the inner left side renamed
-- apart; under it the outer rule leads to the right, and the inner one at p to the left. The peak's variables may be
-- renumbered: `names` gives back the numbers that they had, and different variables had different ones
pub record IsCriticalPeak (inner outer : RewriteRule) (p : List ℕ) (peak : Peak) : Type 0 where
  pub part : Tree
  pub there : subterm_at p outer.left ≡ Some part
  pub offset : ℕ
  pub apart : (v : ℕ) → IsTrue (has_var v outer.left) → v < offset
  pub unifier : ℕ → Tree
  pub most_general : IsMostGeneralUnifier part (shifted offset inner.left) unifier
  pub reduct : Tree
  pub replaced : replaced_at p outer.left (shifted offset inner.right) ≡ Some reduct
  pub names : ℕ → ℕ
  pub different : (v w : ℕ) → IsTrue (occurs_in_peak v peak) → IsTrue (occurs_in_peak w peak) → names v ≡ names w → v ≡ w
  pub top : apply unifier outer.left ≡ apply (λ v. var (names v)) peak.top
  pub left : apply unifier reduct ≡ apply (λ v. var (names v)) peak.left
  pub right : apply unifier outer.right ≡ apply (λ v. var (names v)) peak.right

-- rule i has an instance of its left side at the position p of an instance of rule j's: p is no variable there, and is not
-- the root for a rule with itself
pub record Overlaps (rules : List RewriteRule) (i j : ℕ) (inner outer : RewriteRule) (p : List ℕ) : Type 0 where
  pub inner_numbered : slice_get rules i ≡ Some inner
  pub outer_numbered : slice_get rules j ≡ Some outer
  pub not_itself : p ≡ [] → i ≢ j
  pub part : Tree
  pub there : subterm_at p outer.left ≡ Some part
  pub no_variable : IsVariable part → ⊥
  pub outer_instance : ℕ → Tree
  pub inner_instance : ℕ → Tree
  pub meet : apply outer_instance part ≡ apply inner_instance inner.left

-- each critical peak is in the list: for each overlap there is one
abbrev pub HasCriticalPeaks : List RewriteRule → List Peak → Type 0
HasCriticalPeaks rules peaks =
    (i j : ℕ) (inner outer : RewriteRule) (p : List ℕ) → Overlaps rules i j inner outer p
    → (peak : Peak) × In peak peaks × (peak.inner ≡ i) × (peak.outer ≡ j) × IsCriticalPeak inner outer p peak
