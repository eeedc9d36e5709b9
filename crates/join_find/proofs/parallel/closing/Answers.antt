use Rattle.std.proofs.Common.{List, sym, subst}
use Rattle.trs_defs.specs.Path.{PlacedRule}
use Rattle.term_pool.proofs.Extending.{undone}
use Rattle.join_find.specs.LastSteps.{CloseSides}
use Rattle.join_find.proofs.ParallelPeaks.{one_id_closes}
use Rattle.join_find.proofs.parallel.closing.Goals as goal

pub returns-then-ids-clause-step : goal.returns-then-ids-clause-step
returns-then-ids-clause-step c =
    one_id_closes c.args.trs.now.rules c.args.pool.now c.args.ids c.new.result.items c.requires.left.there c.requires.right.there c.if-ids.true c.new.ensures.items

pub returns-in-Some-clause-step : goal.returns-in-Some-clause-step
returns-in-Some-clause-step c =
    let kept : CloseSides c.args.trs.now.rules c.args.pool.now c.args.ids c.in-Some.steps.now = rw c.in-Some.is at (c.between.ensures c.args.trs.now.rules c.args.pool.now c.requires.last) in
    let C : List PlacedRule → Type 0 = λ ss. CloseSides c.args.trs.now.rules c.args.pool.now c.args.ids ss in
    subst C (sym c.in_ok-copy_path.ensures) kept

pub returns-in_default-found-clause-step : goal.returns-in_default-found-clause-step
returns-in_default-found-clause-step c = rw c.in_default-found.is at c.in_ok-found.ensures.step

pub returns-clause-step : goal.returns-clause-step
returns-clause-step c = rw c.in-Some-found.is at c.in_ok-found.ensures.step

pub returns-in_default-found-clause-released : goal.returns-in_default-found-clause-released
returns-in_default-found-clause-released c =
    undone c.args.pool.now c.closing_of_ids.new.pool c.release.new.self c.mark-mark.result c.mark-mark.ensures c.in_ok-found.ensures.kept c.release.ensures

pub returns-clause-released : goal.returns-clause-released
returns-clause-released c =
    undone c.args.pool.now c.closing_of_ids.new.pool c.release.new.self c.mark-mark.result c.mark-mark.ensures c.in_ok-found.ensures.kept c.release.ensures

pub returns-clause-last : goal.returns-clause-last
returns-clause-last c =
    let rules = c.args.trs.now.rules in
    let closes : CloseSides rules c.args.pool.now c.args.ids c.in-Some-found.steps.items = rw c.in-Some-found.is at c.in_ok-found.ensures.step in
    let C : List PlacedRule → Type 0 = λ ss. CloseSides rules c.args.pool.now c.args.ids ss in
    c.in_ok-keep.ensures rules c.args.pool.now c.requires.last (subst C (sym c.deref.ensures.value) closes)
