use Rattle.term_pool.specs.Pooled.{tree_at}
use Rattle.conf_find.proofs.KeptReach.{all_narrow}
use Rattle.conf_find.proofs.reaching.reach.Goals as goal

pub returns-clause-narrow : goal.returns-clause-narrow
returns-clause-narrow c =
    let keeps = rw c.trs.ensures at c.paths_keep_narrow.ensures in
    all_narrow c.args.by_root.now.rules c.reach_knowing.new.self (tree_at c.args.pool.now c.args.id) c.reach_knowing.result keeps c.requires.narrow.narrow
    c.reach_knowing.ensures.there c.reach_knowing.ensures.follow
