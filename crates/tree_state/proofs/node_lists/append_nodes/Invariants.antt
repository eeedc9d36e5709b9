use Rattle.std.proofs.Common.{◌≡◌, ◌-◌, ◌≤◌, ◌++◌, ℕ, List, length, map, vec_len}
use Rattle.std.specs.Vec.{vec_capacity}
use Rattle.std.specs.Vec.Iter.{into_iter_items}
use Rattle.tree_definitions.specs.cert_step.ProofProblem.{problem_of}
use Rattle.tree_definitions.specs.History.{HistoryEntry}
use Rattle.tree_definitions.specs.States.{new_node}
use Rattle.tree_state.specs.Seen.{node_of, AreWithin}
use Rattle.tree_state.proofs.node_lists.append_nodes.Given as goal

abbrev pub invariant-loop-problem : goal.invariant-loop-problem
invariant-loop-problem l =
    (length (into_iter_items l.problem-iterator) ≤ vec_capacity l.nodes - vec_len l.nodes)
    × ((bound : ℕ) → AreWithin bound l.fn.nodes.items → AreWithin bound l.nodes.items)
    × ((history : List HistoryEntry) → map (node_of history) l.nodes.items ++ map (new_node l.fn.goal) (map problem_of (into_iter_items l.problem-iterator))
    ≡ map (node_of history) l.fn.nodes.items ++ map (new_node l.fn.goal) (map problem_of l.fn.problems.items))
