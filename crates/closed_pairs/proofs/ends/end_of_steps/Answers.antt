use Rattle.std.proofs.Common.{subst}
use Rattle.trs_defs.specs.Path.{PlacedRule, StepsAt}
use Rattle.trs_core.specs.View.{tree}
use Rattle.closed_pairs.proofs.SingleStep.{single_step}
use Rattle.closed_pairs.proofs.ends.end_of_steps.Goals as goal

pub returns-in-Ok : goal.returns-in-Ok
returns-in-Ok c =
    let step = subst (λ (s : PlacedRule). StepsAt c.args.trs.now.rules s.place s.rule (tree c.args.path.now.start.now) (tree c.in-Ok.end)) c.step.view_is c.in-Ok.ensures.step in
    single_step c.args.trs.now.rules c.args.path.now.steps.now c.step-item.result (tree c.args.path.now.start.now) (tree c.in-Ok.end) c.args.item c.args.path.now.number
    c.in-len1.len_at_least c.in-len1.len_below c.step-item.is step c.in-Ok.ensures.limits
