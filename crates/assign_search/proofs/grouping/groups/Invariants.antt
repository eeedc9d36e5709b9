use Rattle.std.proofs.Common.{◌+◌, map}
use Rattle.assign_search.specs.Rest.{reach, AreGroups}
use Rattle.assign_search.proofs.grouping.groups.Given as goal

abbrev pub invariant-loop-c : goal.invariant-loop-c
invariant-loop-c g l = AreGroups (reach (g.S.Space.puzzle l.space)) l.c ((g.S.Space.puzzle l.space).slots + 1) (map (λ a. a.items) l.groups.items)
