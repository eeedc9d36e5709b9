use Rattle.std.proofs.Common.{◌≡◌, Some, sym, slice_get}
use Rattle.std.proofs.lemmas.Result.{err_from_is_err_and}
use Rattle.trs_core.specs.View.{tree}
use Rattle.rewrite_core.proofs.StepLemmas.{contraction, contractum_small, contractum_too_large}
use Rattle.term_pool.proofs.StepLemmas.{rule_numbered}
use Rattle.rewrite_core.proofs.steps.contractum_at.Goals.{After-apply}
use Rattle.rewrite_core.proofs.steps.contractum_at.Goals as goal

numbered : (c : After-apply) → slice_get c.args.trs.now.rules c.args.rule ≡ Some (record { left = tree c.rule.inside.left; right = tree c.rule.inside.right })
numbered c = rule_numbered _ _ _ _ _ _ c.rules.ensures.rules c.in-Some.ensures.lookup.3.0 c.in-Some.ensures.lookup.1 c.rule.view_is

pub returns-in_err-apply-clause-fault : goal.returns-in_err-apply-clause-fault
returns-in_err-apply-clause-fault c =
    let p = err_from_is_err_and c.from_residual-in_err-apply.result c.from_residual-in_err-apply.ensures.1 in
    let n = numbered (goal.at.returns-in_err-apply-clause-fault c).After-apply in
    rw (p.1, p.2) (contractum_too_large c.args.trs.now.rules c.args.place.now c.args.rule (tree c.args.t.now) _ _ _ _ n (sym c.in-Some-at.ensures) (rw c.in-Some-2.is at c.in_ok-found.ensures.found) c.in_err-apply.field-0.0 c.in_err-apply.ensures)

pub returns-clause-made : goal.returns-clause-made
returns-clause-made c =
    let n = numbered (goal.at.returns-clause-made c).After-apply in
    contraction c.args.trs.now.rules c.args.place.now c.args.rule (tree c.args.t.now) _ _ _ _ n (sym c.in-Some-at.ensures) (rw c.in-Some-2.is at c.in_ok-found.ensures.found) (tree c.in_ok-apply.field-0) c.in_ok-apply.ensures

pub returns-clause-limits : goal.returns-clause-limits
returns-clause-limits c =
    let n = numbered (goal.at.returns-clause-limits c).After-apply in
    contractum_small c.args.trs.now.rules c.args.place.now c.args.rule (tree c.args.t.now) _ _ _ _ n (sym c.in-Some-at.ensures) (rw c.in-Some-2.is at c.in_ok-found.ensures.found) (tree c.in_ok-apply.field-0) c.in_ok-apply.ensures
