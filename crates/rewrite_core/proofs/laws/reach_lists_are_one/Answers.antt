use Rattle.term_pool.proofs.ReachOnce.{reach_once}
use Rattle.rewrite_core.proofs.laws.reach_lists_are_one.Goals as goal

pub returns : goal.returns
returns c = λ system t depth count size es fs valid h k. reach_once system valid t depth count size es fs h k
