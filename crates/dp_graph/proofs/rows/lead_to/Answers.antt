use Rattle.std.proofs.Common.{get_or, arith, ap}
use Rattle.std.proofs.lemmas.Option.{slice_get-get_or}
use Rattle.dp_graph.specs.GraphConditions.{lists_of}
use Rattle.dp_graph.proofs.ListPlaces.{lists_length}
use Rattle.dp_graph.specs.declared.rows.RulePlace.{RulePlace}
use Rattle.dp_graph.proofs.RowLaws.{leads_to_no_rule, leads_to_one, leads_to_all}
use Rattle.dp_graph.proofs.rows.lead_to.Goals as goal

pub loop-rule-init : goal.loop-rule-init
loop-rule-init c = leads_to_no_rule c.args.graph.now c.args.rules.now c.args.m c.args.i (lists_of c.args.rows.now.items)

pub put_if-requires : goal.put_if-requires
put_if-requires c =
    let n = c.loop-rule.invariant.count in
    let a = lists_length c.args.rows.now.items in
    let b = lists_length c.loop-rule.rows.items in
    omega (arith, n, a, b, c.requires)

pub loop-rule-preserved : goal.loop-rule-preserved
loop-rule-preserved c =
    let n = c.loop-rule.invariant.count in
    let a = lists_length c.args.rows.now.items in
    let none : RulePlace = record { place = 0; pair = 0 } in
    leads_to_one c.args.graph.now c.args.rules.now c.args.m c.args.i (lists_of c.args.rows.now.items) (lists_of c.loop-rule.rows.items) (lists_of c.put_if.new.rows.items) c.loop-rule.rule-index
    (get_or c.args.rules.now c.loop-rule.rule-index none) c.leads-yes.result (slice_get-get_or c.args.rules.now c.loop-rule.rule-index none c.loop-rule-test.true) c.leads-yes.ensures (omega (arith, n, a, c.requires))
    c.in_ok-put_if.ensures.put (λ e. ap lists_of (c.in_ok-put_if.ensures.none e)) c.loop-rule.invariant

pub returns : goal.returns
returns c = leads_to_all c.args.graph.now c.args.rules.now c.args.m c.args.i (lists_of c.args.rows.now.items) (lists_of c.loop-rule.rows.items) c.loop-rule.rule-index c.loop-rule-test.false c.loop-rule.invariant
