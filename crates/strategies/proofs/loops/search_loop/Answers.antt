use Rattle.std.proofs.Common.{sym, subst}
use Rattle.trs_core.specs.View.{tree}
use Rattle.cert_step.specs.ProofProblem as problem
use Rattle.strategies.specs.declared.strategy.Strategy.TheVariants as strategy
use Rattle.strategies.specs.Conditions.{loop_is_not_there, loop_is_spent}
use Rattle.strategies.specs.Truth.{IsTrueFound}
use Rattle.strategies.proofs.TrueRows.{loop_true}
use Rattle.strategies.proofs.loops.search_loop.Goals as goal

pub returns-in-Found-clause-answer : goal.returns-in-Found-clause-answer
returns-in-Found-clause-answer g c =
    let h = rw c.in-Found.is at c.in_ok-found.ensures.answer in
    subst (IsTrueFound c.args.trs.now c.args.budget strategy.Loop problem.loop) (sym c.closing.ensures)
    (loop_true c.args.trs.now c.args.budget (tree c.in-Found.found.start) c.in-Found.found.path.items c.in-Found.found.place c.systems_are_valid.ensures.valid
    c.systems_are_valid.ensures.limits c.found_loops_are_loops.ensures h)

pub returns-in-NotThere-clause-answer : goal.returns-in-NotThere-clause-answer
returns-in-NotThere-clause-answer g c = loop_is_not_there (rw c.in-NotThere.is at c.in_ok-found.ensures.answer)

pub returns-in-Spent-clause-answer : goal.returns-in-Spent-clause-answer
returns-in-Spent-clause-answer g c = loop_is_spent (rw c.in-Spent.is at c.in_ok-found.ensures.answer)
