use Rattle.std.proofs.lemmas.Result.{err_from_is_err_and}
use Rattle.rewrite_core.proofs.Answering.{refused_first, then_answers}
use Rattle.closed_pairs.specs.ParallelClosed.{paths_of, parallel_conditions_on}
use Rattle.closed_pairs.proofs.Conclusions.{concludes}
use Rattle.closed_pairs.proofs.parallel.parallel_check.Goals as goal

pub returns-in_err-left_linear_check : goal.returns-in_err-left_linear_check
returns-in_err-left_linear_check c =
    let p = err_from_is_err_and c.from_residual.result c.from_residual.ensures.1 in
    rw (p.1, p.2) (record { answers = refused_first _ _ _ c.in_err-left_linear_check.ensures.answers; confluent = λ _. tt })

pub returns : goal.returns
returns c =
    let trs = c.args.trs.now in
    let peaks = c.args.peaks.now in
    let steps = paths_of c.args.steps.now in
    let answers = then_answers _ _ (λ u. u) tt c.peaks_are_closed.result c.in_ok-left_linear_check.ensures.answers c.peaks_are_closed.ensures in
    record {
      answers = answers;
      confluent = λ covers.
          concludes (parallel_conditions_on trs.rules peaks steps) c.peaks_are_closed.result answers
          (λ passed. c.parallel_list_concludes.ensures peaks steps covers passed);
    }
