use Rattle.std.proofs.Common.{◌∙◌, ap, ◌++◌, ◌∷◌, []}
use Rattle.pair_theory.specs.DependencyPair.{DependencyPair}
use Rattle.order_search.proofs.TakenPairs.{one_taken, all_taken}
use Rattle.order_search.proofs.taking.take_pairs.Goals as goal

pub loop-n-preserved : goal.loop-n-preserved
loop-n-preserved c =
    one_taken c.args.pairs.now c.args.problem.now c.loop-n.n-index c.index-pairs-n.result c.loop-n.taken.items c.push.new.self.items c.loop-n-test.true c.requires c.index-pairs-n.is c.loop-n.invariant
    (c.in_ok-push.ensures.items ∙ ap (λ (x : DependencyPair). c.loop-n.taken.items ++ x ∷ []) c.lend.ensures)

pub returns : goal.returns
returns c = all_taken c.args.pairs.now c.args.problem.now c.loop-n.n-index c.loop-n.taken.items c.loop-n-test.false c.loop-n.invariant
