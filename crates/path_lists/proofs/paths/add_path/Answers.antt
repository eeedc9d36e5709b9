use Rattle.term_pool.specs.ListedIds.{listed}
use Rattle.path_lists.proofs.Longer.{one_left_out, one_added}
use Rattle.path_lists.proofs.paths.add_path.Goals as goal

pub returns-in-None-clause-adds : goal.returns-in-None-clause-adds
returns-in-None-clause-adds c =
    let none = rw c.in-None.is at c.in_ok-small_end.ensures.none in
    let unchanged = rw c.in-None.is at c.in_ok-small_end.ensures.unchanged in
    rw unchanged (one_left_out c.args.trs.now.rules (listed c.args.pool.now c.args.entry.now) c.args.step.now c.args.pool.now c.args.paths.now.items c.requires.below c.requires.space none)

pub returns-in_ok-push-in-Some-clause-adds : goal.returns-in_ok-push-in-Some-clause-adds
returns-in_ok-push-in-Some-clause-adds c =
    let end = rw c.in-Some.is at c.in_ok-small_end.ensures.end in
    one_added c.args.trs.now.rules (listed c.args.pool.now c.args.entry.now) c.args.step.now c.args.pool.now c.small_end.new.pool c.args.paths.now.items c.push.new.self.items c.in-Some.end
    c.in_ok-longer-in-Some.field-0 c.in_ok-small_end.ensures.kept c.requires.below c.requires.space end c.in_ok-push-in-Some.ensures.items
    (rw c.deref.ensures.value at c.in_ok-longer-in-Some.ensures)
