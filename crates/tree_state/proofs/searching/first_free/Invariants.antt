use Rattle.std.proofs.Common.{◌≡◌, ◌-◌, ◌<◌, ◌≤◌, ℕ, None, Some, List, length, map, slice_get}
use Rattle.tree_definitions.specs.History.{HistoryEntry}
use Rattle.tree_definitions.specs.States.{TreeNode}
use Rattle.tree_state.specs.Seen.{node_of}
use Rattle.tree_state.specs.Parts.{free_place}
use Rattle.tree_state.proofs.searching.first_free.Given as goal

abbrev pub invariant-loop-k : goal.invariant-loop-k
invariant-loop-k l =
    (l.fn.from ≤ l.k) × (l.fn.from ≤ length l.nodes → l.k ≤ length l.nodes) × ((history : List HistoryEntry) (j : ℕ) (node : TreeNode) → l.fn.from ≤ j → j < l.k
    → slice_get (map (node_of history) l.nodes) j ≡ Some node → free_place l.goals node ≡ None)

abbrev pub decreases-loop-k : goal.decreases-loop-k
decreases-loop-k l = length l.nodes - l.k
