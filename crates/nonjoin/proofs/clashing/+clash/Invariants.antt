use Rattle.std.proofs.Common.{true}
use Rattle.trs_defs.specs.Size.{size_of}
use Rattle.term_pool.specs.Pooled.{tree_at}
use Rattle.trs_caps.specs.KnownCaps.{IsKnown}
use Rattle.nonjoin.proofs.ClashLaws.{LeftClash}
use Rattle.nonjoin.proofs.clashing.+clash.Given as goal

abbrev pub decreases-clash : goal.decreases-clash
decreases-clash l = size_of (tree_at l.pool.now l.a)

abbrev pub invariant-loop-i : goal.invariant-loop-i
invariant-loop-i l = record {
  known : IsKnown l.by_root.rules true l.known;
  left : LeftClash l.by_root.rules (tree_at l.pool l.a) (tree_at l.pool l.b) l.i;
}
