use Rattle.trs_core.specs.View.{tree}
use Rattle.trs_caps.specs.View.{holed}
use Rattle.conf_find.specs.SharedCaps.{cap_at}
use Rattle.conf_find.proofs.CapMeets.{none_first, never_meets, surely_meets, meets_made}
use Rattle.conf_find.proofs.shared_caps.SharedCaps.meets.Goals as goal

pub differs-requires-clause-firsts : goal.differs-requires-clause-firsts
differs-requires-clause-firsts c = none_first c.args.self.now c.new-firsts.result c.new-firsts.ensures

pub returns-then-branch : goal.returns-then-branch
returns-then-branch c =
    never_meets c.args.self.now (cap_at c.args.self.now c.args.k) (tree c.args.left.now) c.new-firsts.result c.differs.new.firsts c.new-firsts.ensures (rw c.if-branch.true at c.in_ok-differs.ensures.fits)

pub returns-then-firsts : goal.returns-then-firsts
returns-then-firsts c =
    surely_meets c.args.self.now (cap_at c.args.self.now c.args.k) (tree c.args.left.now) c.new-firsts.result c.differs.new.firsts (rw c.if-branch.false at c.in_ok-differs.ensures.suffices) c.if-firsts.true

pub returns : goal.returns
returns c = meets_made c.args.self.now (holed c.in_ok-cap.cap) (cap_at c.args.self.now c.args.k) (tree c.args.left.now) c.meets.result c.in_ok-cap.ensures c.meets.ensures
