use Rattle.std.proofs.Common.{◌≤◌, drop}
use Rattle.trs_defs.specs.Tree.{Tree}
use Rattle.trs_defs.specs.Size.{size_of}
use Rattle.trs_defs.specs.Path.{Follows}
use Rattle.path_lists.proofs.Growing.{IsLeft}
use Rattle.path_lists.proofs.room.Room.most_nodes.Given as goal

abbrev pub invariant-loop-step : goal.invariant-loop-step
invariant-loop-step l = l.most ≤ 4096 → (s t : Tree) → size_of s ≤ l.self.start → Follows l.trs.rules l.path s t → IsLeft l.trs.rules (drop l.step-index l.path) l.most t
