use Rattle.std.proofs.Common.{ℕ, take}
use Rattle.conf_find.specs.Marks.{AreMarkedIds}
use Rattle.conf_find.proofs.marks.mark_all.Given as goal

abbrev pub invariant-loop-entry : goal.invariant-loop-entry
invariant-loop-entry g l = record {
  marked : AreMarkedIds g.M.Marks.has_mark l.marks (take l.entry-index l.entries);
  still : (i : ℕ) → g.M.Marks.has_mark l.fn.marks i → g.M.Marks.has_mark l.marks i;
  marks : g.M.Marks.of_pool l.by_root.rules l.pool l.marks;
}
