use Rattle.std.proofs.Common.{true, false}
use Rattle.trs_caps.specs.HoledCap.{MeetsSome}
use Rattle.conf_find.specs.SharedCaps.{cap_at, parts_at}
use Rattle.conf_find.proofs.CapMeets.{symbol_stays, symbol_opens, then_kept}
use Rattle.conf_find.proofs.shared_caps.SharedCaps.add_symbol.Goals as goal

pub meets_some-requires-clause-root : goal.meets_some-requires-clause-root
meets_some-requires-clause-root c = (parts_at c.args.self.now c.args.parts.items, c.in_ok-whole.ensures.cap)

pub returns-then-branch-clause-cap : goal.returns-then-branch-clause-cap
returns-then-branch-clause-cap c =
    let meets : MeetsSome (cap_at c.add.new.self c.in_ok-whole.whole) c.args.by_root.now.rules true = rw c.if-branch.true at c.in_ok-meets_some.ensures in
    symbol_opens c.args.by_root.now.rules c.args.f c.args.self.now c.args.parts.items (cap_at c.add.new.self c.in_ok-whole.whole) c.add-then-branch.new.self c.add-then-branch.result c.in_ok-whole.ensures.cap meets
    c.add-then-branch.ensures.cap

pub returns-then-branch-clause-kept : goal.returns-then-branch-clause-kept
returns-then-branch-clause-kept c = then_kept c.args.self.now c.add.new.self c.add-then-branch.new.self c.add-then-branch.result c.in_ok-whole.ensures.kept c.add-then-branch.ensures.kept

pub returns-else-branch-clause-cap : goal.returns-else-branch-clause-cap
returns-else-branch-clause-cap c = λ ts each.
    let free : MeetsSome (cap_at c.add.new.self c.in_ok-whole.whole) c.args.by_root.now.rules false = rw c.if-branch.false at c.in_ok-meets_some.ensures in
    symbol_stays c.args.by_root.now.rules c.args.f ts (parts_at c.args.self.now c.args.parts.items) each (cap_at c.add.new.self c.in_ok-whole.whole) c.in_ok-whole.ensures.cap free
