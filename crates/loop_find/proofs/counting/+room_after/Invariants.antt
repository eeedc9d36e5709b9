use Rattle.std.proofs.Common.{◌≡◌, ◌+◌, drop}
use Rattle.trs_defs.specs.Size.{size_of, size_of_all}
use Rattle.trs_core.specs.View.{tree, forest}
use Rattle.loop_find.proofs.counting.+room_after.Given as goal

abbrev pub invariant-loop-arg : goal.invariant-loop-arg
invariant-loop-arg l = l.left + size_of (tree l.t) ≡ l.room + size_of_all (forest (drop l.arg-index l.arg-items))
