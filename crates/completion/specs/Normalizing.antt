-- Normal forms by first redexes, within so many units: each step is one.
use Rattle.std.specs.Prelude.{◌≡◌, ◌<◌, ℕ, ◌+◌, ◌⊎◌, List, Result, Ok, Err, IsTrue}
use Rattle.std.proofs.Common.{suc}
use Rattle.trs_defs.specs.Tree.{Tree}
use Rattle.trs_defs.specs.Size.{within_limits}
use Rattle.trs_defs.specs.System.{RewriteRule}
use Rattle.trs_defs.specs.Path.{PlacedRule, StepsAt}
use Rattle.trs_defs.specs.Step.{Step}
use Rattle.trs_defs.specs.NormalForm.{IsNormalForm}
use Rattle.term_pool.specs.Redexes.{IsRedexAt, ComesBefore}
use Rattle.term_pool.specs.Steps.{IsTooLarge}
use Rattle.completion.specs.declared.unfinished.Unfinished.{Unfinished}
use Rattle.completion.specs.declared.unfinished.Unfinished.TheVariants.{NoUnit, TooLarge}

-- no redex of the term comes before this one
pub record IsFirstRedex (rules : List RewriteRule) (t : Tree) (s : PlacedRule) : Type 0 where
  pub redex : IsRedexAt rules t s
  pub first : (u : PlacedRule) → IsRedexAt rules t u → (s ≡ u) ⊎ ComesBefore s u

-- so many steps, each at the first redex, lead from t to v, and what they make keeps the limits
pub data Leads (rules : List RewriteRule) : ℕ → Tree → Tree → Type 0 where
  at_once : {t : Tree} → Leads rules 0 t t
  by_first : {n : ℕ} {t u v : Tree} (s : PlacedRule) → IsFirstRedex rules t s → StepsAt rules s.place s.rule t u
      → IsTrue (within_limits u) → Leads rules n u v → Leads rules (suc n) t v

-- (Unfinished: no unit is left for the next step, or it passes a limit)
pub data Normalizes (rules : List RewriteRule) (units : ℕ) (t : Tree) : Result (Tree × ℕ) Unfinished → Type 0 where
  -- the normal form, and the units that are left
  to_normal_form : (n left : ℕ) (u : Tree) → Leads rules n t u → IsNormalForm (Step rules) u → n + left ≡ units
      → Normalizes rules units t (Ok (u, left))
  to_no_unit : (u : Tree) (s : PlacedRule) → Leads rules units t u → IsFirstRedex rules u s → Normalizes rules units t (Err NoUnit)
  to_too_large : (n : ℕ) (u : Tree) (s : PlacedRule) → n < units → Leads rules n t u → IsFirstRedex rules u s
      → IsTooLarge rules s.place s.rule u → Normalizes rules units t (Err TooLarge)
