use Rattle.std.proofs.Common.{sym, ◌∙◌}
use Rattle.std.proofs.lemmas.Result.{err_from_is_err_and}
use Rattle.rewrite_core.specs.Check.{goes_on, stops, lacks}
use Rattle.rewrite_core.proofs.Answering.{refused_first, refused_later, then_answers}
use Rattle.closed_pairs.proofs.crit_pairs.Answered.{all_listed}
use Rattle.rule_label.proofs.labelled.labelled_check.Goals as goal

pub returns-in_err-linear_check : goal.returns-in_err-linear_check
returns-in_err-linear_check c =
    let p = err_from_is_err_and c.from_residual.result c.from_residual.ensures.1 in
    rw (p.1, p.2) (record { answers = refused_first _ _ _ c.in_err-linear_check.ensures.answers })

pub returns-in_err-found : goal.returns-in_err-found
returns-in_err-found c =
    let p = err_from_is_err_and c.from_residual-in_err-found.result c.from_residual-in_err-found.ensures.1 in
    rw (p.1, p.2) (record { answers = refused_later _ _ _ tt c.in_ok-linear_check.ensures.answers (refused_first _ _ _ c.in_err-found.ensures.refused) })

pub returns-in_err-ranks_are_counted : goal.returns-in_err-ranks_are_counted
returns-in_err-ranks_are_counted c =
    let p = err_from_is_err_and c.from_residual-in_err-ranks_are_counted.result c.from_residual-in_err-ranks_are_counted.ensures.1 in
    let first = c.in_ok-found.ensures.first in
    rw (p.1, p.2) (record {
      answers = refused_later _ _ _ tt c.in_ok-linear_check.ensures.answers (refused_later _ _ _ first.all first.lists (refused_first _ _ _ c.in_err-ranks_are_counted.ensures));
    })

pub returns-then-items-found : goal.returns-then-items-found
returns-then-items-found c =
    let first = c.in_ok-found.ensures.first in
    record {
      answers = rw first.counted (goes_on tt _ c.in_ok-linear_check.ensures.answers (goes_on first.all _ first.lists
          (goes_on tt _ c.in_ok-ranks_are_counted.ensures (stops _ (lacks (λ e. c.if-items-found.true (e ∙ sym first.counted)))))));
    }

pub returns : goal.returns
returns c =
    let lists = all_listed c.args.trs.now.rules _ c.in_ok-found.found c.in_ok-found.ensures.first c.if-items-found.false in
    record {
      answers =
          then_answers _ _ (λ u. u) tt c.peaks_are_decreasing.result c.in_ok-linear_check.ensures.answers
          (then_answers _ _ (λ u. u) _ c.peaks_are_decreasing.result lists (rw c.deref.ensures.value at c.peaks_are_decreasing.ensures));
    }
