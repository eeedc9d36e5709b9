use Rattle.trs_core.specs.View.{tree}
use Rattle.rewrite_core.proofs.PathLemmas.{is_empty}
use Rattle.rewrite_core.proofs.StepLemmas.{step_at_root}
use Rattle.rewrite_core.proofs.steps.reduct.Goals as goal

pub returns-then-is_empty-clause-step : goal.returns-then-is_empty-clause-step
returns-then-is_empty-clause-step c =
    let root = is_empty c.args.place.now c.is_empty.result (rw c.places.ensures.places at c.is_empty.ensures) c.if-is_empty.true in
    step_at_root c.args.trs.now.rules c.args.place.now c.args.rule (tree c.args.t.now) (tree c.in_ok-contractum.contractum) root c.in_ok-contractum.ensures.made
