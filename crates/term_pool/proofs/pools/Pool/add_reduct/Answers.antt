use Rattle.term_pool.specs.ListedIds.{listed}
use Rattle.term_pool.proofs.ListingLaws.{on_both}
use Rattle.term_pool.proofs.ReachedIds.{ids_below, passed, one_listed}
use Rattle.term_pool.proofs.pools.Pool.add_reduct.Goals as goal

pub new_reduct-requires-clause-below : goal.new_reduct-requires-clause-below
new_reduct-requires-clause-below c = ids_below c.args.self.now c.args.reached.now c.requires.reached

pub returns-in-None-clause-adds : goal.returns-in-None-clause-adds
returns-in-None-clause-adds c =
    let none = rw c.in-None.is at c.in_ok-new_reduct.ensures.none in
    let unchanged = rw c.in-None.is at c.in_ok-new_reduct.ensures.unchanged in
    rw unchanged (passed c.args.trs.now.rules c.args.bounds.limit c.args.bounds.size c.args.step.now
    (listed c.args.self.now c.args.entry.now) c.args.self.now c.args.reached.now c.requires.reached none)

pub returns-in_ok-one_longer-in-Some-clause-adds : goal.returns-in_ok-one_longer-in-Some-clause-adds
returns-in_ok-one_longer-in-Some-clause-adds c =
    let new = rw c.in-Some.is at c.in_ok-new_reduct.ensures.new in
    on_both c.push.result (λ is updates. one_listed c.args.trs.now.rules c.args.bounds.limit c.args.bounds.size c.args.step.now
    (listed c.args.self.now c.args.entry.now) c.args.self.now c.new_reduct.new.self c.args.reached.now c.push.new.self c.in-Some.reduct
    c.in_ok-one_longer-in-Some.field-0 c.in_ok-new_reduct.ensures.kept c.requires.reached c.requires.space new is (rw c.deref.ensures.value at c.in_ok-one_longer-in-Some.ensures) updates)
    c.push.ensures.list c.push.ensures.ids
