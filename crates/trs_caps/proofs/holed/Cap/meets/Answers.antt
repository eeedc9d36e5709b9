use Rattle.trs_core.specs.View.{tree}
use Rattle.trs_caps.specs.View.{holed}
use Rattle.trs_caps.proofs.AddedParts.{all_walked, walked_not}
use Rattle.trs_caps.proofs.OrderedParts.{between_meets}
use Rattle.trs_caps.proofs.holed.Cap.meets.Goals as goal

pub returns-then-fits_in_order : goal.returns-then-fits_in_order
returns-then-fits_in_order c = between_meets (holed c.args.self.now) (tree c.args.left.now) _ (c.fits_in_order.ensures c.if-fits_in_order.true)

pub returns-then-not-branch : goal.returns-then-not-branch
returns-then-not-branch c = walked_not (holed c.args.self.now) (tree c.args.left.now) c.new-parts.result c.new-parts.ensures.empty (rw c.if-not-branch.true at c.in_ok-walk.ensures)

pub returns : goal.returns
returns c = all_walked (holed c.args.self.now) (tree c.args.left.now) c.new-parts.result c.walk.new.parts c.all_agree.result c.new-parts.ensures.empty (rw c.if-not-branch.false at c.in_ok-walk.ensures) c.all_agree.ensures
