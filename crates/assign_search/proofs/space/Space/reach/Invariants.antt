use Rattle.std.proofs.Common.{◌≡◌, ◌≤◌}
use Rattle.assign_search.specs.Rest.{reach, reach_below}
use Rattle.assign_search.proofs.space.Space.reach.Given as goal

abbrev pub invariant-loop-end : goal.invariant-loop-end
invariant-loop-end g l = record {
  same : reach (g.Self.Space.puzzle l.self) l.c ≡ reach_below ((g.Self.Space.puzzle l.self).uses l.c) l.end;
  short : l.end ≤ (g.Self.Space.puzzle l.self).slots;
}

abbrev pub decreases-loop-end : goal.decreases-loop-end
decreases-loop-end g l = l.end
