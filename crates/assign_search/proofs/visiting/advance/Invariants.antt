use Rattle.std.proofs.Common.{◌≡◌, length}
use Rattle.assign_search.specs.Rest.{IsStanding, rest_of}
use Rattle.assign_search.proofs.visiting.advance.Given as goal

abbrev pub invariant-loop-value : goal.invariant-loop-value
invariant-loop-value g l = record {
  standing : IsStanding (g.S.Space.puzzle l.space) l.values.items;
  rest : rest_of (g.S.Space.puzzle l.space) l.fn.values.items ≡ rest_of (g.S.Space.puzzle l.space) l.values.items;
}

abbrev pub decreases-loop-value : goal.decreases-loop-value
decreases-loop-value g l = length l.values.items
