use Rattle.std.proofs.Common.{◌∙◌, arith}
use Rattle.std.proofs.lemmas.Result.{err_from_is_err_and}
use Rattle.trs_defs.proofs.ListItems.{item_there}
use Rattle.rewrite_core.specs.Check.{stops, lacks}
use Rattle.crit_pairs.specs.PooledPeaks.{tree_of, AreSides}
use Rattle.closed_pairs.proofs.PooledClosings.{path_refused, end_answers}
use Rattle.closed_pairs.proofs.pooled_closings.pooled_peak_is_closed.Goals.{After-pair-pair}
use Rattle.closed_pairs.proofs.pooled_closings.pooled_peak_is_closed.Goals as goal

-- the ids of the pair are there
sides : (c : After-pair-pair) → AreSides c.args.peaks.now c.pair-pair.result (item_there c.requires.peaks.peaks c.args.n (omega (arith, c.requires.there, c.requires.peaks.held.count))).0
sides c =
    let h = c.requires.peaks in
    let peak = item_there h.peaks c.args.n (omega (arith, c.requires.there, h.held.count)) in
    c.pair-pair.ensures h.peaks peak.0 h.held peak.1

pub returns-then-not-is_parallel-clause-answers : goal.returns-then-not-is_parallel-clause-answers
returns-then-not-is_parallel-clause-answers c = λ all p held there.
    stops _ (lacks (λ h. let wrong = c.is_parallel.ensures.1 h in let other = c.if-not-is_parallel.true in absurd cc))

pub end_of_path-requires : goal.end_of_path-requires
end_of_path-requires c = (sides (goal.at.end_of_path-requires c).After-pair-pair).left_there

pub same_ids-requires-clause-first : goal.same_ids-requires-clause-first
same_ids-requires-clause-first c = c.in_ok-end.ensures.there

pub same_ids-requires-clause-second : goal.same_ids-requires-clause-second
same_ids-requires-clause-second c = (c.in_ok-end.ensures.kept c.pair-pair.result.right (sides (goal.at.same_ids-requires-clause-second c).After-pair-pair).right_there).0

pub returns-in_err-end-clause-answers : goal.returns-in_err-end-clause-answers
returns-in_err-end-clause-answers c = λ all p held there.
    let side = c.pair-pair.ensures all p held there in
    let q = err_from_is_err_and c.from_residual.result c.from_residual.ensures.1 in
    rw (q.1, q.2) (path_refused c.args.trs.now.rules c.args.n p c.args.path.now (c.is_parallel.ensures.0 (cc (c.if-not-is_parallel.false))) (tree_of c.args.peaks.now c.pair-pair.result.left) side.left _ c.in_err-end.ensures.end)

pub returns-clause-answers : goal.returns-clause-answers
returns-clause-answers c = λ all p held there.
    let side = c.pair-pair.ensures all p held there in
    end_answers c.args.trs.now.rules c.args.n p c.args.path.now (c.is_parallel.ensures.0 (cc (c.if-not-is_parallel.false))) (tree_of c.args.peaks.now c.pair-pair.result.left) side.left
    _ (tree_of c.end_of_path.new.self c.pair-pair.result.right) c.same_ids.result c.in_ok-end.ensures.end ((c.in_ok-end.ensures.kept c.pair-pair.result.right side.right_there).1 ∙ side.right) c.same_ids.ensures
