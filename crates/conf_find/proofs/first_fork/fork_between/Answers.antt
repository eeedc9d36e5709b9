use Rattle.conf_find.specs.Fork.{fork_of}
use Rattle.conf_find.proofs.ForkPeaks.{number_within, entry_below, parted_by}
use Rattle.conf_find.proofs.BetweenLists.{parted_terms, none_parted}
use Rattle.conf_find.proofs.first_fork.fork_between.Goals as goal

pub returns-in-None : goal.returns-in-None
returns-in-None g c =
    none_parted g.M.Marks.never_meet c.args.by_root.now.rules c.args.pool.now c.args.lefts.now c.args.rights.now c.in-None.ensures

pub entry-left-requires : goal.entry-left-requires
entry-left-requires g c =
    let t = parted_terms g.M.Marks.never_meet c.args.by_root.now.rules c.args.pool.now c.args.lefts.now c.args.rights.now (c.in-Some.i, c.in-Some.j) c.in-Some.ensures in
    number_within c.args.pool.now c.args.lefts.now c.in-Some.i t.u t.left_at

pub entry-right-requires : goal.entry-right-requires
entry-right-requires g c =
    let t = parted_terms g.M.Marks.never_meet c.args.by_root.now.rules c.args.pool.now c.args.lefts.now c.args.rights.now (c.in-Some.i, c.in-Some.j) c.in-Some.ensures in
    number_within c.args.pool.now c.args.rights.now c.in-Some.j t.v t.right_at

pub test_of-requires-clause-left : goal.test_of-requires-clause-left
test_of-requires-clause-left g c = entry_below c.args.pool.now c.args.lefts.now c.in-Some.i c.entry-left.result.now c.entry-left.ensures c.requires.lefts

pub test_of-requires-clause-right : goal.test_of-requires-clause-right
test_of-requires-clause-right g c = entry_below c.args.pool.now c.args.rights.now c.in-Some.j c.entry-right.result.now c.entry-right.ensures c.requires.rights

pub returns-in_ok-found-in-Some : goal.returns-in_ok-found-in-Some
returns-in_ok-found-in-Some g c =
    let t = parted_terms g.M.Marks.never_meet c.args.by_root.now.rules c.args.pool.now c.args.lefts.now c.args.rights.now (c.in-Some.i, c.in-Some.j) c.in-Some.ensures in
    parted_by g.M.Marks.never_meet c.args.by_root.now.rules c.args.peak.now c.args.pool.now c.args.lefts.now c.args.rights.now (c.in-Some.i, c.in-Some.j) t
    c.entry-left.result.now c.entry-right.result.now c.entry-left.ensures c.entry-right.ensures c.in_ok-test-in-Some.test c.in_ok-test-in-Some.ensures (fork_of c.in_ok-found-in-Some.found)
    c.deref.result.now c.deref-in-Some.result.now c.deref.ensures.value c.deref-in-Some.ensures.value c.in_ok-found-in-Some.ensures
