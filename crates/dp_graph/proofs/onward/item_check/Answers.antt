use Rattle.std.proofs.Common.{get_or, subst}
use Rattle.std.proofs.lemmas.List.{drop_all}
use Rattle.std.proofs.lemmas.Option.{slice_get-get_or}
use Rattle.rewrite_core.specs.declared.checks.refusals.CheckFault.TheVariants.{Refused}
use Rattle.rewrite_core.specs.declared.checks.refusals.StepRefused.TheVariants.{EdgeBack}
use Rattle.rewrite_core.proofs.Items.{one_more_passed, item_refused, all_passed}
use Rattle.dp_graph.specs.EarlierPairs.{leads_to_none_of, first_led_to}
use Rattle.dp_graph.proofs.onward.item_check.Goals as goal

pub returns-in-Some : goal.returns-in-Some
returns-in-Some c = λ before is.
    let i = c.loop-m.m-index in
    let m = get_or c.args.members.now i 0 in
    item_refused (λ _ k. leads_to_none_of c.args.graph.now k before) c.args.members.now i m (Refused (EdgeBack m c.in-Some.n)) (slice_get-get_or c.args.members.now i 0 c.loop-m-test.true)
    (subst (λ o. leads_to_none_of c.args.graph.now m before (first_led_to m o)) c.in-Some.is (c.led_to.ensures before is)) (c.loop-m.invariant before is)

pub loop-m-preserved : goal.loop-m-preserved
loop-m-preserved c = λ before is.
    let i = c.loop-m.m-index in
    let m = get_or c.args.members.now i 0 in
    one_more_passed (λ _ k. leads_to_none_of c.args.graph.now k before) c.args.members.now i m (slice_get-get_or c.args.members.now i 0 c.loop-m-test.true)
    (subst (λ o. leads_to_none_of c.args.graph.now m before (first_led_to m o)) c.in_default.is (c.led_to.ensures before is)) (c.loop-m.invariant before is)

pub returns : goal.returns
returns c = λ before is. all_passed (λ _ k. leads_to_none_of c.args.graph.now k before) c.args.members.now c.loop-m.m-index (drop_all c.loop-m.m-index c.args.members.now c.loop-m-test.false) (c.loop-m.invariant before is)
