use Rattle.crit_pairs.proofs.SpotWalk.{small_of}
use Rattle.crit_pairs.proofs.WholeLaws.{both_whole}
use Rattle.crit_pairs.proofs.results.results_at.Goals as goal

pub returns-in-Some : goal.returns-in-Some
returns-in-Some c =
    both_whole c.args.rules.now.rules c.args.outer.now c.args.inner.now c.args.place.now c.args.j c.args.i c.in-Some.left c.in-Some.right
    c.requires.outer c.requires.inner c.in-Some.ensures

pub contract-requires-clause-small : goal.contract-requires-clause-small
contract-requires-clause-small c = (small_of c.args.rules.now.rules c.args.i c.args.inner.now c.requires.small c.requires.inner).1
