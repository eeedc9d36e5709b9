use Rattle.std.proofs.Common.{refl, sym, ap, ◌∙◌}
use Rattle.cert_step.specs.ProofProblem as problem
use Rattle.cert_step.specs.ProofProblem.{problem_of}
use Rattle.cert_step.specs.ProofStep.{step_of}
use Rattle.strategies.proofs.Applying.{finds_for, found_for, failed_for}
use Rattle.strategies.proofs.pair_search.search_on_pairs.Goals as goal

pub leaving-requires-clause-step : goal.leaving-requires-clause-step
leaving-requires-clause-step g c =
    let same = c.put_pairs.ensures ∙ (c.take_pairs.ensures.system ∙ c.requires.prepared) in
    (finds_for c.put_pairs.new.self c.args.trs.now c.args.budget g.S.SearchOnPairs.strategy (problem_of c.args.problem.now) (problem.dp c.deref.result.now) (step_of c.into_step.result)
    (g.S.SearchOnPairs.step c.in-Found.found) same (ap problem_of c.in-Dp.is ∙ ap (λ l. problem.dp l) (sym c.deref.ensures.value)) c.into_step.ensures
    (rw c.in-Found.is at c.in_ok-found.ensures.answer)).made

pub leaving-requires-clause-applies : goal.leaving-requires-clause-applies
leaving-requires-clause-applies g c =
    let same = c.put_pairs.ensures ∙ (c.take_pairs.ensures.system ∙ c.requires.prepared) in
    (finds_for c.put_pairs.new.self c.args.trs.now c.args.budget g.S.SearchOnPairs.strategy (problem_of c.args.problem.now) (problem.dp c.deref.result.now) (step_of c.into_step.result)
    (g.S.SearchOnPairs.step c.in-Found.found) same (ap problem_of c.in-Dp.is ∙ ap (λ l. problem.dp l) (sym c.deref.ensures.value)) c.into_step.ensures
    (rw c.in-Found.is at c.in_ok-found.ensures.answer)).applies

pub returns-in_ok-findings-in-Found-clause-answer : goal.returns-in_ok-findings-in-Found-clause-answer
returns-in_ok-findings-in-Found-clause-answer g c =
    let same = c.put_pairs.ensures ∙ (c.take_pairs.ensures.system ∙ c.requires.prepared) in
    found_for c.put_pairs.new.self c.args.trs.now c.args.budget g.S.SearchOnPairs.strategy (problem_of c.args.problem.now) (step_of c.into_step.result) c.in_ok-findings-in-Found.findings
    same c.in_ok-findings-in-Found.ensures.is_true
    (finds_for c.args.trs.now c.args.trs.now c.args.budget g.S.SearchOnPairs.strategy (problem_of c.args.problem.now) (problem.dp c.deref.result.now) (step_of c.into_step.result)
    (g.S.SearchOnPairs.step c.in-Found.found) refl (ap problem_of c.in-Dp.is ∙ ap (λ l. problem.dp l) (sym c.deref.ensures.value)) c.into_step.ensures
    (rw c.in-Found.is at c.in_ok-found.ensures.answer)).finds

pub returns-in-NotThere-clause-answer : goal.returns-in-NotThere-clause-answer
returns-in-NotThere-clause-answer g c =
    failed_for c.args.trs.now c.args.budget g.S.SearchOnPairs.strategy (problem_of c.args.problem.now) (problem.dp c.deref.result.now) _
    (ap problem_of c.in-Dp.is ∙ ap (λ l. problem.dp l) (sym c.deref.ensures.value)) (rw c.in-NotThere.is at c.in_ok-found.ensures.answer)

pub returns-in-Spent-clause-answer : goal.returns-in-Spent-clause-answer
returns-in-Spent-clause-answer g c =
    failed_for c.args.trs.now c.args.budget g.S.SearchOnPairs.strategy (problem_of c.args.problem.now) (problem.dp c.deref.result.now) _
    (ap problem_of c.in-Dp.is ∙ ap (λ l. problem.dp l) (sym c.deref.ensures.value)) (rw c.in-Spent.is at c.in_ok-found.ensures.answer)
