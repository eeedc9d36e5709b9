use Rattle.std.proofs.Common.{◌≡◌, ◌++◌, ◌∷◌, [], ◌<◌, ◌≤◌, ℕ, List, Some, length, map, take, drop, slice_get}
use Rattle.tree_definitions.specs.History.{HistoryEntry}
use Rattle.tree_definitions.specs.Reports.{Walks}
use Rattle.tree_state.specs.Seen.{node_of}
use Rattle.tree_definitions.proofs.Weights.{sum_of, weight}
use Rattle.tree_state.proofs.walking.walk.Given as goal

abbrev pub invariant-loop-i : goal.invariant-loop-i
invariant-loop-i l =
    ((k c : ℕ) → slice_get l.order.items k ≡ Some c → c < length l.nodes) × (l.i ≤ length l.order.items)
    × ((history : List HistoryEntry) (tail : List ℕ) → Walks (map (node_of history) l.nodes) (drop l.i l.order.items) tail
    → Walks (map (node_of history) l.nodes) (l.root ∷ []) (take l.i l.order.items ++ tail))

abbrev pub decreases-loop-i : goal.decreases-loop-i
decreases-loop-i l = sum_of (weight (map (node_of []) l.nodes) (length (map (node_of []) l.nodes))) (drop l.i l.order.items)
