use Rattle.std.proofs.Common.{refl}
use Rattle.join_find.proofs.KeptSteps.{one_more_place, one_more_step, copy_closes}
use Rattle.join_find.proofs.last_steps.LastSteps.keep.Goals as goal

pub loop-self-preserved : goal.loop-self-preserved
loop-self-preserved c = λ rules pool before.
    one_more_place rules pool c.loop-self.self (record { by_left = c.push.new.self }) c.in_ok-push.ensures.items (c.loop-self.invariant rules pool before)

pub returns : goal.returns
returns c = λ rules pool before closes.
    let kept = copy_closes rules pool c.args.sides c.args.steps.now c.in_ok-kept.kept c.in_ok-kept.ensures closes in
    one_more_step rules pool c.loop-self.self _ c.args.sides.0 (record { sides = c.args.sides; steps = c.in_ok-kept.kept }) refl kept (c.loop-self.invariant rules pool before)
