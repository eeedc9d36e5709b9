use Rattle.std.proofs.Common.{◌≡◌, ◌-◌}
use Rattle.trs_defs.specs.Size.{size_of}
use Rattle.term_pool.specs.Pooled.{tree_at}
use Rattle.completion.specs.Searching.{ArePassed, HasNoneUpTo}
use Rattle.completion.proofs.searching.+first_redex.Given as goal

abbrev pub decreases-first_redex : goal.decreases-first_redex
decreases-first_redex l = size_of (tree_at l.pool.now l.id)

abbrev pub invariant-loop-part : goal.invariant-loop-part
invariant-loop-part l = record {
  none : HasNoneUpTo l.system.rules (tree_at l.pool l.id) l.count;
  passed : ArePassed l.system.rules l.pool l.passed;
  same : l.place.items ≡ l.fn.place.items;
}

abbrev pub decreases-loop-part : goal.decreases-loop-part
decreases-loop-part l = 255 - l.count
