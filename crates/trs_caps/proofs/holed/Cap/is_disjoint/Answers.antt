use Rattle.trs_caps.specs.View.{holed}
use Rattle.trs_caps.proofs.Compatible.{disjoint_where_clash}
use Rattle.trs_caps.proofs.holed.Cap.is_disjoint.Goals as goal

pub returns : goal.returns
returns c = disjoint_where_clash (holed c.args.self.now) (holed c.args.other.now) c.clashes.result c.clashes.ensures
