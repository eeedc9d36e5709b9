use Rattle.std.proofs.Common.{refl, sym}
use Rattle.order_search.specs.OrderSpace.{arity_with_mark}
use Rattle.order_search.proofs.Constraints.{last_number}
use Rattle.lpo_find.specs.LpoSpace.{lpo_family}
use Rattle.lpo_find.specs.LpoRow.{entries_of}
use Rattle.lpo_find.proofs.LpoPuzzle.{truth_of_rule, truth_of_last}
use Rattle.lpo_find.proofs.space.LpoSpaceSpace.holds.Goals as goal

pub returns-in-Some : goal.returns-in-Some
returns-in-Some c =
    let x = c.args.self.now in
    truth_of_rule (arity_with_mark x.arities.now) x.symbols.now x.rules.now x.pairs.now x.covered c.args.values.now (entries_of x.arities.now x.symbols.now c.args.values.now) refl
    c.args.c c.in-Some.rule.now c.falls_weakly.result (sym c.in-Some.ensures) c.falls_weakly.ensures

pub returns-in-None : goal.returns-in-None
returns-in-None c =
    let x = c.args.self.now in
    truth_of_last (arity_with_mark x.arities.now) x.symbols.now x.rules.now x.pairs.now x.covered c.args.values.now (entries_of x.arities.now x.symbols.now c.args.values.now) refl
    c.args.c c.some_falls_strictly.result
    (last_number (lpo_family (arity_with_mark x.arities.now)) x.symbols.now x.rules.now x.pairs.now c.args.c (sym c.in-None.ensures) c.requires.constraint)
    c.some_falls_strictly.ensures
