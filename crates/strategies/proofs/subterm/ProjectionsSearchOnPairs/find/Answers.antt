use Rattle.cert_step.specs.ProofProblem as problem
use Rattle.cert_step.specs.ProofStep as step
use Rattle.order_find.specs.SubtermRow.{FindsSubterm}
use Rattle.strategies.specs.declared.strategy.Strategy.TheVariants as strategy
use Rattle.strategies.specs.Conditions.{subterm_is_found, subterm_is_not_there, subterm_is_spent}
use Rattle.strategies.proofs.PlacesMade.{places_made}
use Rattle.strategies.proofs.Applying.{subterm_applies}
use Rattle.strategies.proofs.Answering.{answers_for_pairs}
use Rattle.strategies.proofs.subterm.ProjectionsSearchOnPairs.find.Goals as goal

pub returns-clause-answer : goal.returns-clause-answer
returns-clause-answer g c =
    let system = c.args.trs.now in
    let numbers = c.args.numbers.now in
    let budget = c.args.budget in
    answers_for_pairs c.find_subterm_in.result system budget strategy.Subterm (problem.dp numbers) (λ found. FindsSubterm system numbers budget found.items) (λ found. step.subterm found.items) _ _ _
    (λ found h. (record {
      finds = subterm_is_found h;
      made = places_made system numbers budget found.items h;
      applies = subterm_applies system numbers found.items (c.found_places_apply.ensures system numbers budget found.items h);
    }))
    subterm_is_not_there subterm_is_spent c.find_subterm_in.ensures.answer
