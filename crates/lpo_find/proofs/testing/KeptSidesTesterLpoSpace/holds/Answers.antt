use Rattle.std.proofs.Common.{refl, sym}
use Rattle.order_search.specs.OrderSpace.{arity_with_mark}
use Rattle.lpo_find.specs.LpoRow.{entries_of}
use Rattle.lpo_find.proofs.LpoPuzzle.{truth_of_rule}
use Rattle.lpo_find.proofs.testing.KeptSidesTesterLpoSpace.holds.Goals as goal

pub returns-in-Some-clause-truth : goal.returns-in-Some-clause-truth
returns-in-Some-clause-truth c =
    let x = c.args.space.now in
    truth_of_rule (arity_with_mark x.arities.now) x.symbols.now x.rules.now x.pairs.now x.covered c.args.values.now (entries_of x.arities.now x.symbols.now c.args.values.now) refl
    c.args.c c.in-Some.rule.now c.rule_falls.result (sym c.in-Some.ensures) c.rule_falls.ensures.falls
