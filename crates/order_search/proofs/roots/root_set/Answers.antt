use Rattle.order_search.proofs.RootSets.{two_roots, all_roots, no_roots_yet}
use Rattle.order_search.proofs.roots.root_set.Goals as goal

pub loop-pair-init : goal.loop-pair-init
loop-pair-init c = no_roots_yet c.args.pairs.now c.new-set.result c.new-set.ensures.empty

pub loop-pair-preserved : goal.loop-pair-preserved
loop-pair-preserved c =
    two_roots c.args.pairs.now c.loop-pair.set c.add.new.set c.add-in-loop-pair.new.set c.loop-pair.pair-index c.pair-item.result c.from_root.result c.to_root.result c.loop-pair-test.true c.pair-item.is c.from_root.ensures c.to_root.ensures
    c.in_ok-add.ensures c.in_ok-add-2.ensures c.loop-pair.invariant

pub returns : goal.returns
returns c = all_roots c.args.pairs.now c.loop-pair.set c.loop-pair.pair-index c.loop-pair-test.false c.loop-pair.invariant
