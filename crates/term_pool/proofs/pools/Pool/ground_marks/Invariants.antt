use Rattle.std.proofs.Common.{◌≡◌, length}
use Rattle.term_pool.specs.LeftSides.{AreGround}
use Rattle.term_pool.proofs.pools.Pool.ground_marks.Given as goal

abbrev pub invariant-loop-id : goal.invariant-loop-id
invariant-loop-id l = record {
  count : length l.marks.items ≡ l.id;
  ground : AreGround l.self l.marks.items;
}
