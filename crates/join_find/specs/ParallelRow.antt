-- The strategy parallel: the left side of each peak reaches its right side in one parallel step.
-- (Huet, Confluent reductions, 1980; Baader and Nipkow, section 6.4.)
use Rattle.std.specs.Prelude.{◌≢◌, ◌<◌, ℕ, ◌+◌, List, [], ◌∷◌, ◌++◌, map}
use Rattle.trs_defs.specs.Member.{In}
use Rattle.trs_defs.specs.Tree.{Tree, Trees, app, nil, cons}
use Rattle.trs_defs.specs.Variable.{IsLinear}
use Rattle.trs_defs.specs.System.{RewriteRule}
use Rattle.trs_defs.specs.Path.{PlacedRule, StepsAt, Follows}
use Rattle.term_pool.specs.Redexes.{below}
use Rattle.rewrite_core.specs.PlacedPeak.{PlacedPeak}
use Rattle.join_find.specs.First.{Some_in, Along}

-- no rule leads from s to t at the root
abbrev pub HasNoRootStep : List RewriteRule → Tree → Tree → Type 0
HasNoRootStep rules s t = (k : ℕ) → StepsAt rules [] k s t → ⊥

-- the least rule that leads from s to t at the root
pub record IsRootStep (rules : List RewriteRule) (s t : Tree) (k : ℕ) : Type 0 where
  pub steps : StepsAt rules [] k s t
  pub least : (j : ℕ) → j < k → StepsAt rules [] j s t → ⊥

-- The steps of one parallel step from s to t: none where the terms are equal; else the least rule that leads from s to t at
-- the root; else, where the roots are equal, those of the arguments.
mutual
  pub data IsParallelStep (rules : List RewriteRule) : Tree → Tree → List PlacedRule → Type 0 where
    no_step : {t : Tree} → IsParallelStep rules t t []
    at_root : {s t : Tree} {k : ℕ} → s ≢ t → IsRootStep rules s t k → IsParallelStep rules s t (record { place = []; rule = k } ∷ [])
    in_arguments : {f : ℕ} {ss ts : Trees} {steps : List PlacedRule} → app f ss ≢ app f ts → HasNoRootStep rules (app f ss) (app f ts)
        → AreParallelSteps rules 1 ss ts steps → IsParallelStep rules (app f ss) (app f ts) steps

  -- of arguments that are counted from this place on
  pub data AreParallelSteps (rules : List RewriteRule) : ℕ → Trees → Trees → List PlacedRule → Type 0 where
    no_argument : {place : ℕ} → AreParallelSteps rules place nil nil []
    one_argument : {place : ℕ} {s t : Tree} {ss ts : Trees} {first rest : List PlacedRule} → IsParallelStep rules s t first
        → AreParallelSteps rules (place + 1) ss ts rest
        → AreParallelSteps rules place (cons s ss) (cons t ts) (map (below (place ∷ [])) first ++ rest)

-- the parallel step from the left of the peak to its right; its places, run in order, pass no limit
pub record IsParallelClosing (rules : List RewriteRule) (peak : PlacedPeak) (steps : List PlacedRule) : Type 0 where
  pub parallel : IsParallelStep rules peak.left peak.right steps
  pub follows : Follows rules steps peak.left peak.right

-- the peak has none
pub record HasNoClosing (rules : List RewriteRule) (peak : PlacedPeak) : Type 0 where
  pub none : (steps : List PlacedRule) → IsParallelClosing rules peak steps → ⊥

-- each left side is linear
pub record AreLeftLinear (rules : List RewriteRule) : Type 0 where
  pub each : (rule : RewriteRule) → In rule rules → IsLinear rule.left

pub record FindsParallel (rules : List RewriteRule) (peaks : List PlacedPeak) (steps : List (List PlacedRule)) : Type 0 where
  pub linear : AreLeftLinear rules
  pub closed : Along (IsParallelClosing rules) peaks steps

-- some left side is not linear, or some peak has no such step
pub data FailsParallel (rules : List RewriteRule) (peaks : List PlacedPeak) : Type 0 where
  not_left_linear : (AreLeftLinear rules → ⊥) → FailsParallel rules peaks
  not_closed : Some_in (HasNoClosing rules) peaks → FailsParallel rules peaks
