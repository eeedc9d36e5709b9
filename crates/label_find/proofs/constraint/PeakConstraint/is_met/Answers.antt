use Rattle.label_find.proofs.SideReads.{met_read}
use Rattle.label_find.proofs.constraint.PeakConstraint.is_met.Goals as goal

pub returns : goal.returns
returns c =
    met_read c.args.sides.now c.args.self.now c.side_at-lefts.result.now c.side_at-rights.result.now c.side_at-lefts.ensures c.side_at-rights.ensures c.args.ranks.now c.rank_of-a.result
    c.rank_of-b.result c.deref.result.now c.some_meet.result c.rank_of-a.ensures c.rank_of-b.ensures c.deref.ensures.value c.some_meet.ensures
