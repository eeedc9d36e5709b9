use Rattle.std.proofs.Common.{◌≡◌, ◌≤◌, subst}
use Rattle.trs_defs.specs.Path.{PlacedRule, StepsAt}
use Rattle.trs_defs.specs.Size.{size_of}
use Rattle.trs_defs.proofs.Limits.{limits_size}
use Rattle.term_pool.specs.Pooled.{tree_at}
use Rattle.term_pool.specs.Steps.{IsStepFault}
use Rattle.term_pool.proofs.Extending.{undone}
use Rattle.join_find.proofs.NearTerms.{fault_adds, adds_known, adds_unknown, before_mark, not_before}
use Rattle.join_find.proofs.near.add_reduct.Goals.{After-release}
use Rattle.join_find.proofs.near.add_reduct.Goals as goal

pub returns-in-Err-clause-adds : goal.returns-in-Err-clause-adds
returns-in-Err-clause-adds c =
    let t = tree_at c.args.pool.now c.args.id in
    let S : PlacedRule → Type 0 = λ s. IsStepFault c.args.trs.now.rules s.place s.rule t c.in-Err.fault in
    fault_adds c.args.trs.now.rules c.args.pool.now t c.args.step.now c.args.near.now.items c.in-Err.fault c.unless_no_memory.result c.requires.redex
    (subst S c.step.view_is c.in-Err.ensures.fault) c.unless_no_memory.ensures

same : (c : After-release) → c.release.new.self ≡ c.args.pool.now
same c = undone c.args.pool.now c.step_at.new.self c.release.new.self c.mark-mark.result c.mark-mark.ensures c.in-Ok.ensures.kept c.release.ensures

steps : (c : After-release) → StepsAt c.args.trs.now.rules c.args.step.now.place c.args.step.now.rule (tree_at c.args.pool.now c.args.id) (tree_at c.step_at.new.self c.in-Ok.reduct)
steps c =
    let S : PlacedRule → Type 0 = λ s. StepsAt c.args.trs.now.rules s.place s.rule (tree_at c.args.pool.now c.args.id) (tree_at c.step_at.new.self c.in-Ok.reduct) in
    subst S c.step.view_is c.in-Ok.ensures.step

pub returns-in_ok-push-in-Ok-clause-same : goal.returns-in_ok-push-in-Ok-clause-same
returns-in_ok-push-in-Ok-clause-same c = same (goal.at.returns-in_ok-push-in-Ok-clause-same c).After-release

pub returns-else-reduct-mark-clause-same : goal.returns-else-reduct-mark-clause-same
returns-else-reduct-mark-clause-same c = same (goal.at.returns-else-reduct-mark-clause-same c).After-release

pub returns-in_err-one_longer-in-Ok-clause-same : goal.returns-in_err-one_longer-in-Ok-clause-same
returns-in_err-one_longer-in-Ok-clause-same c = same (goal.at.returns-in_err-one_longer-in-Ok-clause-same c).After-release

pub returns-in_err-push-in-Ok-clause-same : goal.returns-in_err-push-in-Ok-clause-same
returns-in_err-push-in-Ok-clause-same c = same (goal.at.returns-in_err-push-in-Ok-clause-same c).After-release

pub returns-in_ok-push-in-Ok-clause-adds : goal.returns-in_ok-push-in-Ok-clause-adds
returns-in_ok-push-in-Ok-clause-adds c =
    let a = (goal.at.returns-in_ok-push-in-Ok-clause-adds c).After-release in
    let u = tree_at c.step_at.new.self c.in-Ok.reduct in
    let small : size_of u ≤ 65536 = limits_size u c.in-Ok.ensures.limits in
    adds_known c.args.trs.now.rules c.args.pool.now (tree_at c.args.pool.now c.args.id) c.args.step.now c.args.near.now.items u (steps a) small c.in-Ok.ensures.limits
    c.push.new.self.items c.in-Ok.reduct c.in_ok-one_longer-in-Ok.field-0
    (before_mark c.args.pool.now c.step_at.new.self c.in-Ok.reduct c.mark-mark.result c.in-Ok.ensures.kept c.mark-mark.ensures c.if-reduct-mark.true)
    c.in_ok-one_longer-in-Ok.ensures c.in_ok-push-in-Ok.ensures.items

pub returns-else-reduct-mark-clause-adds : goal.returns-else-reduct-mark-clause-adds
returns-else-reduct-mark-clause-adds c =
    let a = (goal.at.returns-else-reduct-mark-clause-adds c).After-release in
    let u = tree_at c.step_at.new.self c.in-Ok.reduct in
    let small : size_of u ≤ 65536 = limits_size u c.in-Ok.ensures.limits in
    adds_unknown c.args.trs.now.rules c.args.pool.now (tree_at c.args.pool.now c.args.id) c.args.step.now c.args.near.now.items u (steps a) small c.in-Ok.ensures.limits
    (λ i. not_before c.args.pool.now c.step_at.new.self c.in-Ok.reduct c.mark-mark.result i c.ids_are_distinct.ensures c.in-Ok.ensures.kept c.in-Ok.ensures.there c.mark-mark.ensures c.if-reduct-mark.false)
