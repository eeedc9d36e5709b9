use Rattle.std.proofs.Common.{◌≡◌, drop, length}
use Rattle.trs_defs.specs.Size.{size_of}
use Rattle.trs_core.specs.View.{tree, forest}
use Rattle.loop_find.proofs.QuickUnifiers.{StillUnites}
use Rattle.loop_find.proofs.binding.+bind.Given as goal

abbrev pub invariant-loop-i : goal.invariant-loop-i
invariant-loop-i l = record {
  same_length : length l.t-items ≡ length l.ps-inside.items.items;
  unites : StillUnites (tree l.part) (tree l.pattern) l.fn.found.items l.found.items (forest (drop l.i l.t-items)) (forest (drop l.i l.ps-inside.items.items));
}

abbrev pub decreases-bind : goal.decreases-bind
decreases-bind l = size_of (tree l.part.now)
