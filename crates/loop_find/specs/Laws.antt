-- The loop that is found meets the conditions of a loop as a step of a proof.
use Rattle.std.specs.Prelude.{ℕ, List, Ok, IsTrue}
use Rattle.trs_defs.specs.Tree.{Tree}
use Rattle.trs_defs.specs.Size.{within_limits}
use Rattle.trs_defs.specs.WellFormed.{IsWellFormed}
use Rattle.trs_defs.specs.System.{System, IsSystem}
use Rattle.trs_defs.specs.Path.{PlacedRule}
use Rattle.trs_core.specs.SystemLimits.{IsWithinLimits}
use Rattle.rewrite_core.specs.LoopConditions.{loop_conditions}
use Rattle.loop_find.specs.LoopRow.{FindsLoop}

-- the step's conditions hold, and its start is a well-formed term within the limits
pub record IsLoopStep (system : System) (start : Tree) (path : List PlacedRule) (place : List ℕ) : Type 0 where
  pub conditions : loop_conditions system.rules start path place (Ok tt)
  pub well_formed : IsWellFormed system.arities start
  pub small : IsTrue (within_limits start)

abbrev pub FoundLoopsAreLoops : Type 0
FoundLoopsAreLoops =
    (system : System) (budget : ℕ) (start : Tree) (path : List PlacedRule) (place : List ℕ) → IsSystem system → IsWithinLimits system
    → FindsLoop system.rules budget start path place → IsLoopStep system start path place
