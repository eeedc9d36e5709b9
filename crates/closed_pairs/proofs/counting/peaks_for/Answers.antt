use Rattle.std.proofs.Common.{◌≡◌, length, sym, ◌∙◌}
use Rattle.std.proofs.lemmas.Result.{err_from_is_err_and}
use Rattle.rewrite_core.specs.Check.{goes_on, stops, holds, lacks, returned}
use Rattle.rewrite_core.proofs.Answering.{refused_first}
use Rattle.crit_pairs.proofs.Answered.{all_listed, all_counted}
use Rattle.closed_pairs.proofs.counting.peaks_for.Goals as goal

pub returns-in_err-found : goal.returns-in_err-found
returns-in_err-found c =
    let p = err_from_is_err_and c.from_residual.result c.from_residual.ensures.1 in
    rw (p.1, p.2) (refused_first _ _ _ c.in_err-found.ensures.refused)

pub returns-then-items-found : goal.returns-then-items-found
returns-then-items-found c =
    let first = c.in_ok-found.ensures.first in
    rw first.counted (goes_on first.all _ first.lists (stops _ (lacks (λ e. c.if-items-found.true (e ∙ sym first.counted)))))

pub returns : goal.returns
returns c =
    let first = c.in_ok-found.ensures.first in
    let lists = all_listed c.args.trs.now.rules c.args.items c.in_ok-found.found first c.if-items-found.false in
    let same : c.args.items ≡ length c.in_ok-found.found.peaks.items = all_counted c.args.trs.now.rules c.args.items c.in_ok-found.found first c.if-items-found.false in
    goes_on _ _ lists (goes_on tt _ (holds same) returned)
