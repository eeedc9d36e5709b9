use Rattle.trs_core.specs.View.{tree}
use Rattle.crit_pairs.specs.Meeting.{solution}
use Rattle.crit_pairs.proofs.SideSizeLaws.{instance_known}
use Rattle.crit_pairs.proofs.side_instances.instance_size.Goals as goal

pub returns : goal.returns
returns c =
    instance_known (solution c.args.bindings.now) c.args.from (tree c.args.side.now) c.args.size.now c.deref-v-items.result.now c.loop-v.v-index c.loop-v.total c.requires.size c.loop-v-test.false
    c.loop-v.invariant.within c.loop-v.invariant.counted
