use Rattle.conf_find.proofs.ForkPeaks.{step_behind, all_behind}
use Rattle.conf_find.proofs.forks.behind.Goals as goal

pub loop-step-preserved : goal.loop-step-preserved
loop-step-preserved c =
    step_behind c.args.path.now c.loop-step.longer.items c.push-in-loop-step.new.self.items (record { place = c.args.place; rule = c.args.rule }) c.in_ok-copy.field-0 c.step-item.result c.loop-step.step-index
    c.loop-step.invariant c.in_ok-copy.ensures c.in_ok-push-2.ensures.items c.loop-step-test.true c.step-item.is

pub returns : goal.returns
returns c = all_behind c.args.path.now c.loop-step.longer.items (record { place = c.args.place; rule = c.args.rule }) c.loop-step.step-index c.loop-step.invariant c.loop-step-test.false
