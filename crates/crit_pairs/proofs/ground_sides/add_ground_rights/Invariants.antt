use Rattle.std.proofs.Common.{take}
use Rattle.term_pool.specs.Pooled.{Extends}
use Rattle.crit_pairs.specs.GroundSides.{AreGroundRights}
use Rattle.crit_pairs.proofs.ground_sides.add_ground_rights.Given as goal

abbrev pub invariant-loop-k : goal.invariant-loop-k
invariant-loop-k l = record {
  rights : AreGroundRights (take l.k l.rules) l.pool l.sides.items;
  kept : Extends l.fn.pool l.pool;
}
