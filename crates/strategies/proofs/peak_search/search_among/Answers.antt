use Rattle.std.proofs.Common.{sym, subst}
use Rattle.strategies.specs.Truth.{IsTrueFound}
use Rattle.strategies.proofs.peak_search.search_among.Goals as goal

pub returns-in_default-clause-answer : goal.returns-in_default-clause-answer
returns-in_default-clause-answer g c =
    let h = rw c.in_default.is at c.requires in g.met.S.SearchOnPeaks.fails_past_limit c.args.trs.now c.args.budget h.0 h.1

pub returns-in_ok-findings-in-Found-clause-answer : goal.returns-in_ok-findings-in-Found-clause-answer
returns-in_ok-findings-in-Found-clause-answer g c =
    subst (IsTrueFound c.args.trs.now c.args.budget g.S.SearchOnPeaks.strategy g.S.SearchOnPeaks.problem) (sym c.in_ok-findings-in-Found.ensures)
    (rw c.in-Found.is at c.in_ok-found.ensures.answer)

pub returns-in-NotThere-clause-answer : goal.returns-in-NotThere-clause-answer
returns-in-NotThere-clause-answer g c = rw c.in-NotThere.is at c.in_ok-found.ensures.answer

pub returns-in-Spent-clause-answer : goal.returns-in-Spent-clause-answer
returns-in-Spent-clause-answer g c = rw c.in-Spent.is at c.in_ok-found.ensures.answer
