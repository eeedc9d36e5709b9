use Rattle.std.proofs.Common.{◌≡◌, ℕ, Some, map, length, slice_get}
use Rattle.tree_state.specs.tree_definitions.Reports.{Part, part_of}
use Rattle.tree_core.specs.Reported.{IsReported}
use Rattle.tree_core.proofs.tree.Tree.report.Given as goal

abbrev pub invariant-loop-goal : goal.invariant-loop-goal
invariant-loop-goal l =
    (length l.goals.items ≡ l.goal)
    × ((g : ℕ) (part : Part) → slice_get (map part_of l.goals.items) g ≡ Some part → IsReported l.self g part)
