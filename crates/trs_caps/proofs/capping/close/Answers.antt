use Rattle.std.specs.Prelude.{true, false}
use Rattle.trs_caps.specs.HoledTree.{hole, symbol}
use Rattle.trs_caps.specs.HoledCap.{MeetsSome}
use Rattle.trs_caps.specs.View.{holed_all}
use Rattle.trs_caps.proofs.CapSteps.{kept_symbol, opened_symbol}
use Rattle.trs_caps.proofs.capping.close.Goals as goal

pub returns-then-branch-clause-cap : goal.returns-then-branch-clause-cap
returns-then-branch-clause-cap c = λ fixed pool t known is whole.
    let meets : MeetsSome (symbol c.args.f (holed_all c.args.items.items)) c.args.by_root.now.rules true = rw c.if-branch.true at (c.in_ok-is_opened.ensures.meets fixed pool t known is whole) in
    opened_symbol c.args.by_root.now.rules fixed t (symbol c.args.f (holed_all c.args.items.items)) whole meets

pub returns-else-branch-clause-cap : goal.returns-else-branch-clause-cap
returns-else-branch-clause-cap c = λ fixed pool t known is whole.
    let free : MeetsSome (symbol c.args.f (holed_all c.args.items.items)) c.args.by_root.now.rules false = rw c.if-branch.false at (c.in_ok-is_opened.ensures.meets fixed pool t known is whole) in
    kept_symbol c.args.by_root.now.rules fixed t (symbol c.args.f (holed_all c.args.items.items)) whole free

pub returns-then-branch-clause-shape : goal.returns-then-branch-clause-shape
returns-then-branch-clause-shape c = c.add.ensures hole c.hole.ensures

pub returns-else-branch-clause-shape : goal.returns-else-branch-clause-shape
returns-else-branch-clause-shape c = c.add-else-branch.ensures (symbol c.args.f (holed_all c.args.items.items)) c.requires.shape
