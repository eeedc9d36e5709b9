-- Paths step by step.
use Rattle.std.proofs.Common.{◌≡◌, ◌≢◌, ℕ, ◌+◌, ◌<◌, ◌≤◌, List, [], ◌∷◌, length, take, drop, get_or, IsTrue, refl, subst}
use Rattle.std.proofs.lemmas.List.{take_more, take_all, drop_all}
use Rattle.std.proofs.lemmas.Option.{slice_get_read}
use Rattle.trs_defs.specs.Tree.{Tree}
use Rattle.trs_defs.specs.Size.{within_limits}
use Rattle.trs_defs.specs.System.{RewriteRule, System, IsSystem}
use Rattle.trs_defs.specs.Path.{PlacedRule, StepsAt, Follows}
use Rattle.trs_defs.proofs.ArgumentLists.{cell}
use Rattle.trs_defs.proofs.Places.{follows_joined, steps_at_once}
use Rattle.term_pool.specs.declared.steps.StepFault.{StepFault}
use Rattle.term_pool.specs.declared.steps.StepFault.TheVariants as steps
use Rattle.term_pool.specs.declared.paths.PathFault.TheVariants as paths
use Rattle.term_pool.specs.Steps.{IsStepFault}
use Rattle.term_pool.specs.Paths.{PathStops, IsPathFault, fault_at}
use Rattle.term_pool.proofs.StepLemmas.{fault_excludes}

-- an item of the path as it was read, in its parts
pub read_step : (path : List PlacedRule) (k : ℕ) (place : List ℕ) (rule : ℕ) (item : PlacedRule)
    → record { place = place; rule = rule } ≡ item → item ≡ get_or path k item → record { place = place; rule = rule } ≡ get_or path k (record { place = place; rule = rule })
read_step path k place rule item e is = rw e is

-- the step leaves the term as it is
pub record StaysBy (system : System) (s : PlacedRule) (t : Tree) : Type 0 where
  pub valid : IsSystem system
  pub steps : StepsAt system.rules s.place s.rule t t
  pub small : IsTrue (within_limits t)

-- step number k of the path, which is read
module _ (system : System) (path : List PlacedRule) (k : ℕ) (s : PlacedRule) (within : k < length path) (is : s ≡ get_or path k s) where
  -- one more step of the path
  pub one_more_step : (t u v : Tree) → Follows system.rules (take k path) t u → StepsAt system.rules s.place s.rule u v → IsTrue (within_limits v)
      → Follows system.rules (take (k + 1) path) t v
  one_more_step t u v follows step small =
      rw (take_more path k s within, ← is) (follows_joined system.rules (take k path) (s ∷ []) t u v follows (v, step, small, refl))

  stops : (t u : Tree) (f : StepFault) → Follows system.rules (take k path) t u → IsStepFault system.rules s.place s.rule u f → f ≢ steps.OutOfMemory → PathStops system.rules path t k f
  stops t u f follows why other =
      record { made = u; follows = follows; step = s; there = slice_get_read path (length path) k s refl within is; fault = why; no_memory = other }

  pub faulty : (t u : Tree) (f : StepFault) → Follows system.rules (take k path) t u → IsStepFault system.rules s.place s.rule u f → IsPathFault system.rules path t (fault_at k f)
  faulty t u steps.OutOfMemory follows why = tt
  faulty t u steps.NoRule follows why = stops t u steps.NoRule follows why (λ e. cc)
  faulty t u steps.NoPosition follows why = stops t u steps.NoPosition follows why (λ e. cc)
  faulty t u steps.NoMatch follows why = stops t u steps.NoMatch follows why (λ e. cc)
  faulty t u steps.TooLarge follows why = stops t u steps.TooLarge follows why (λ e. cc)

  read_rest : (u w : Tree) → Follows system.rules (drop k path) u w → Follows system.rules (s ∷ drop (k + 1) path) u w
  read_rest u w follows = subst (λ p. Follows system.rules p u w) (cell path k s within is) follows

  -- what is left of the path after one more step
  pub rest_of_path : (u v w : Tree) → IsSystem system → StepsAt system.rules s.place s.rule u v
      → Follows system.rules (drop k path) u w → Follows system.rules (drop (k + 1) path) v w
  rest_of_path u v w valid step follows =
      let whole = read_rest u w follows in
      let same : whole.0 ≡ v = steps_at_once system s.place s.rule u whole.0 v valid whole.1 step in
      rw (← same) whole.3

  no_fault : (u w : Tree) (f : StepFault) → IsSystem system → IsStepFault system.rules s.place s.rule u f → f ≢ steps.OutOfMemory
      → Follows system.rules (drop k path) u w → ⊥
  no_fault u w f valid why other follows =
      let whole = read_rest u w follows in
      fault_excludes system s.place s.rule u whole.0 f valid why other whole.1 whole.2

  -- A path that can be followed meets no fault but want of memory.
  pub no_stop : (u w : Tree) (f : StepFault) → IsSystem system → IsStepFault system.rules s.place s.rule u f
      → Follows system.rules (drop k path) u w → fault_at k f ≡ paths.OutOfMemory
  no_stop u w steps.OutOfMemory valid why follows = refl
  no_stop u w steps.NoRule valid why follows = absurd (no_fault u w steps.NoRule valid why (λ e. cc) follows)
  no_stop u w steps.NoPosition valid why follows = absurd (no_fault u w steps.NoPosition valid why (λ e. cc) follows)
  no_stop u w steps.NoMatch valid why follows = absurd (no_fault u w steps.NoMatch valid why (λ e. cc) follows)
  no_stop u w steps.TooLarge valid why follows = absurd (no_fault u w steps.TooLarge valid why (λ e. cc) follows)

pub all_steps : (rules : List RewriteRule) (path : List PlacedRule) (k : ℕ) (t u : Tree) → length path ≤ k → Follows rules (take k path) t u → Follows rules path t u
all_steps rules path k t u h follows = rw (take_all k path h) at follows

pub no_steps_left : (rules : List RewriteRule) (path : List PlacedRule) (k : ℕ) (t u : Tree) → length path ≤ k → Follows rules (drop k path) t u → t ≡ u
no_steps_left rules path k t u h follows = rw (drop_all k path h) at follows
