use Rattle.path_lists.proofs.Growing.{AreSmallBefore}
use Rattle.path_lists.proofs.growth.growth_of.Given as goal

abbrev pub invariant-loop-rule : goal.invariant-loop-rule
invariant-loop-rule l = AreSmallBefore l.rule-items l.rule-index l.most
