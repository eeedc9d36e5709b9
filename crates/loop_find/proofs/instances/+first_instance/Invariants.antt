use Rattle.std.proofs.Common.{◌≡◌, ◌≤◌, drop, length}
use Rattle.trs_defs.specs.Size.{size_of}
use Rattle.trs_core.specs.View.{tree, forest}
use Rattle.term_pool.specs.Redexes.{AreNarrow}
use Rattle.loop_find.proofs.Recurrences.{NoneYet}
use Rattle.loop_find.proofs.instances.+first_instance.Given as goal

abbrev pub invariant-loop-i : goal.invariant-loop-i
invariant-loop-i l = record {
  none : NoneYet (tree l.pattern) (tree l.t) l.i;
  narrow : AreNarrow (forest (drop l.i l.arg-items));
  few : length l.arg-items ≤ 255;
  same : l.place.items ≡ l.fn.place.items;
}

abbrev pub decreases-first_instance : goal.decreases-first_instance
decreases-first_instance l = size_of (tree l.t.now)
