use Rattle.std.proofs.Common.{◌≡◌, ℕ, List, map}
use Rattle.tree_definitions.specs.History.{HistoryEntry}
use Rattle.tree_definitions.specs.States.{roots_from}
use Rattle.tree_state.specs.Parts.{fresh_goals}
use Rattle.tree_state.specs.Seen.{node_of, AreWithin}
use Rattle.tree_state.proofs.FirstRoots.{first_roots}
use Rattle.tree_state.proofs.board.Board.new.Given as goal

abbrev pub invariant-loop-goal : goal.invariant-loop-goal
invariant-loop-goal l = record {
  within : (bound : ℕ) → AreWithin bound l.nodes.items;
  goals : l.goals.items ≡ fresh_goals (first_roots l.goal-items l.goal-index);
  nodes : (history : List HistoryEntry) → map (node_of history) l.nodes.items ≡ roots_from 0 (first_roots l.goal-items l.goal-index);
}
