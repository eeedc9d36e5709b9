use Rattle.std.proofs.Common.{length, arith, refl, subst, ◌≡◌}
use Rattle.std.proofs.lemmas.Option.{slice_get-get_or}
use Rattle.dp_graph.specs.RulePlaces.{AreRules}
use Rattle.dp_graph.proofs.RowLaws.{no_rules, have_rows}
use Rattle.dp_graph.proofs.rows.rules_of.Goals as goal

pub loop-j-init : goal.loop-j-init
loop-j-init c = record {
  low = omega arith;
  are = no_rules c.args.graph.now c.args.problem.now (length c.args.problem.now) c.in_ok-rules.rules refl c.in_ok-rules.ensures;
}

pub add-requires : goal.add-requires
add-requires c = have_rows c.args.graph.now c.args.problem.now c.loop-j.j c.loop-j.rules c.loop-j.invariant.are

pub loop-j-preserved : goal.loop-j-preserved
loop-j-preserved c = record {
  low = omega (arith, c.loop-j-test.true);
  are = c.in_ok-add.ensures c.args.problem.now (slice_get-get_or c.args.problem.now c.loop-j.j 0 c.loop-j-test.true) c.loop-j.invariant.are;
}

pub returns : goal.returns
returns c =
    let low = c.loop-j.invariant.low in
    let same : c.loop-j.j ≡ length c.args.problem.now = omega (arith, low, c.loop-j-test.false) in
    subst (λ z. AreRules c.args.graph.now c.args.problem.now z c.loop-j.rules) same c.loop-j.invariant.are
