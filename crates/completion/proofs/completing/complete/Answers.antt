use Rattle.std.proofs.Common.{subst}
use Rattle.completion.specs.GreaterBy.{GreaterBy}
use Rattle.completion.specs.declared.taking.Taken.{Taken}
use Rattle.completion.specs.CompletionRun.{equations_end}
use Rattle.completion.specs.Answers.{plain_ending}
use Rattle.completion.specs.Taking.{HasTaken}
use Rattle.completion.proofs.RightEndings.{completes_right}
use Rattle.completion.proofs.PathReductions.{reduction_order}
use Rattle.completion.proofs.LoopLaws.{runs_if_ok, right_if_ok, taken_arities, closed_arities}
use Rattle.completion.proofs.completing.complete.Goals as goal

pub returns-in-Ended-clause-run : goal.returns-in-Ended-clause-run
returns-in-Ended-clause-run c =
    let H : Taken → Type 0 = HasTaken c.args.equations.now (GreaterBy c.args.order.now) c.args.budget in
    equations_end (plain_ending c.in-Ended.why) (subst H c.in-Ended.is c.in_ok-why.ensures)

pub returns-in-Ended-clause-right : goal.returns-in-Ended-clause-right
returns-in-Ended-clause-right c =
    let H : Taken → Type 0 = HasTaken c.args.equations.now (GreaterBy c.args.order.now) c.args.budget in
    completes_right c.args.equations.now c.systems_are_valid.ensures.valid (GreaterBy c.args.order.now) (reduction_order c.args.equations.now.arities c.args.order.now c.requires.full)
    c.args.budget (plain_ending c.in-Ended.why) (equations_end (plain_ending c.in-Ended.why) (subst H c.in-Ended.is c.in_ok-why.ensures))

pub returns-in-Ended-clause-arities : goal.returns-in-Ended-clause-arities
returns-in-Ended-clause-arities c =
    let H : Taken → Type 0 = HasTaken c.args.equations.now (GreaterBy c.args.order.now) c.args.budget in
    taken_arities c.args.equations.now (GreaterBy c.args.order.now) c.args.budget c.in-Ended.why (subst H c.in-Ended.is c.in_ok-why.ensures)

pub returns-in-Rules-clause-run : goal.returns-in-Rules-clause-run
returns-in-Rules-clause-run c =
    let H : Taken → Type 0 = HasTaken c.args.equations.now (GreaterBy c.args.order.now) c.args.budget in
    let h = subst H c.in-Rules.is c.in_ok-why.ensures in
    runs_if_ok c.args.equations.now (GreaterBy c.args.order.now) c.args.budget c.in-Rules.system c.in-Rules.units c.close.result (h.0, h.1) c.close.ensures.closes

pub returns-in-Rules-clause-right : goal.returns-in-Rules-clause-right
returns-in-Rules-clause-right c =
    let H : Taken → Type 0 = HasTaken c.args.equations.now (GreaterBy c.args.order.now) c.args.budget in
    let h = subst H c.in-Rules.is c.in_ok-why.ensures in
    right_if_ok c.args.equations.now (GreaterBy c.args.order.now) c.args.budget c.systems_are_valid.ensures.valid (reduction_order c.args.equations.now.arities c.args.order.now c.requires.full) c.close.result
    (runs_if_ok c.args.equations.now (GreaterBy c.args.order.now) c.args.budget c.in-Rules.system c.in-Rules.units c.close.result (h.0, h.1) c.close.ensures.closes)

pub close-requires : goal.close-requires
close-requires c =
    let H : Taken → Type 0 = HasTaken c.args.equations.now (GreaterBy c.args.order.now) c.args.budget in
    (subst H c.in-Rules.is c.in_ok-why.ensures).2

pub returns-in-Rules-clause-arities : goal.returns-in-Rules-clause-arities
returns-in-Rules-clause-arities c =
    let H : Taken → Type 0 = HasTaken c.args.equations.now (GreaterBy c.args.order.now) c.args.budget in
    closed_arities c.args.equations.now.arities c.in-Rules.system.arities (subst H c.in-Rules.is c.in_ok-why.ensures).0 c.close.result c.close.ensures.arities
