use Rattle.std.proofs.Common.{◌+◌, ◌≤◌, length, drop}
use Rattle.trs_core.specs.SystemLimits.{nodes_of}
use Rattle.term_pool.specs.Pooled.{Extends}
use Rattle.term_pool.specs.Outlines.{AreOutlines}
use Rattle.term_pool.proofs.pools.Pool.outlines_of.Given as goal

abbrev pub invariant-loop-k : goal.invariant-loop-k
invariant-loop-k l = record {
  outlines : AreOutlines l.trs.rules l.self l.outlines;
  kept : Extends l.fn.self l.self;
  few : length l.self + nodes_of (drop l.k l.trs.rules) ≤ length l.fn.self + 65536;
}
