-- What the code of normal forms answers.
use Rattle.std.specs.Prelude.{◌≡◌, ◌<◌, ℕ, List, length, Result, Ok, Err, IsTrue}
use Rattle.trs_defs.specs.Tree.{Tree}
use Rattle.trs_defs.specs.Size.{within_limits}
use Rattle.trs_defs.specs.System.{RewriteRule}
use Rattle.trs_defs.specs.Path.{PlacedRule, StepsAt}
use Rattle.trs_defs.specs.Step.{Step}
use Rattle.trs_defs.specs.NormalForm.{IsNormalForm}
use Rattle.term_pool.specs.Pooled.{tree_at}
use Rattle.term_pool.specs.Steps.{IsTooLarge}
use Rattle.term_pool.specs.declared.steps.StepFault.{StepFault}
use Rattle.term_pool.specs.declared.steps.StepFault.TheVariants as fault
use Rattle.completion.specs.declared.unfinished.Unfinished.{Unfinished}
use Rattle.completion.specs.declared.unfinished.Unfinished.TheVariants as unfinished
use Rattle.completion.specs.declared.normalizing.Form.{Form}
use Rattle.completion.specs.declared.normalizing.Form.TheVariants as form
use Rattle.completion.specs.declared.first_steps.Move.{Move}
use Rattle.completion.specs.declared.first_steps.Move.TheVariants as move
use Rattle.completion.specs.Normalizing.{IsFirstRedex}

-- what the code found, where a pool has the normal form
abbrev pub form_of : List Tree → Form → Result (Tree × ℕ) Unfinished
form_of pool (form.Normal id left) = Ok (tree_at pool id, left)
form_of pool (form.Stopped why) = Err why

-- the pool has the id of a normal form
abbrev pub IsFormIn : List Tree → Form → Type 0
IsFormIn pool (form.Normal id left) = id < length pool
IsFormIn pool (form.Stopped why) = Unit {0}

-- the first redex leads from t to u within limits, and a unit is there
pub record IsFirstStep (rules : List RewriteRule) (units : ℕ) (t u : Tree) : Type 0 where
  pub step : PlacedRule
  pub first : IsFirstRedex rules t step
  pub steps : StepsAt rules step.place step.rule t u
  pub limits : IsTrue (within_limits u)
  pub unit_there : 0 < units

-- why no step is made: no unit is there, or the step passes a limit
abbrev pub IsStopped : List RewriteRule → ℕ → Tree → Unfinished → Type 0
IsStopped rules units t unfinished.NoUnit = (units ≡ 0) × ((s : PlacedRule) × IsFirstRedex rules t s)
IsStopped rules units t unfinished.TooLarge =
    (0 < units) × ((s : PlacedRule) × IsFirstRedex rules t s × IsTooLarge rules s.place s.rule t)

-- what the first redex of t leads to, in this pool
abbrev pub IsMove : List RewriteRule → ℕ → Tree → List Tree → Move → Type 0
IsMove rules units t pool move.Nowhere = IsNormalForm (Step rules) t
IsMove rules units t pool (move.To id) = IsFirstStep rules units t (tree_at pool id) × (id < length pool)
IsMove rules units t pool (move.Stopped why) = IsStopped rules units t why

-- the move stops for this fault, which is about size
abbrev pub IsStopOf : StepFault → Move → Type 0
IsStopOf why m = (why ≡ fault.TooLarge) × (m ≡ move.Stopped unfinished.TooLarge)
