use Rattle.std.proofs.Common.{◌∙◌, ap, arith}
use Rattle.std.proofs.lemmas.Result.{err_from_is_err_and}
use Rattle.trs_defs.proofs.ListItems.{item_there}
use Rattle.rewrite_core.specs.PathsOfJoin.{PathsOfJoin}
use Rattle.crit_pairs.specs.PooledPeaks.{tree_of, AreSides}
use Rattle.closed_pairs.proofs.PooledJoins.{left_refused, right_refused, ends_answer}
use Rattle.closed_pairs.proofs.pooled.pooled_peak_is_joined.Goals.{After-pair-pair}
use Rattle.closed_pairs.proofs.pooled.pooled_peak_is_joined.Goals as goal

-- the ids of the pair are there
sides : (c : After-pair-pair) → AreSides c.args.peaks.now c.pair-pair.result (item_there c.requires.peaks.peaks c.args.n (omega (arith, c.requires.there, c.requires.peaks.held.count))).0
sides c =
    let h = c.requires.peaks in
    let peak = item_there h.peaks c.args.n (omega (arith, c.requires.there, h.held.count)) in
    c.pair-pair.ensures h.peaks peak.0 h.held peak.1

pub end_of_path-requires : goal.end_of_path-requires
end_of_path-requires c = (sides (goal.at.end_of_path-requires c).After-pair-pair).left_there

pub end_of_path-requires-2 : goal.end_of_path-requires-2
end_of_path-requires-2 c = (c.in_ok-left.ensures.kept c.pair-pair.result.right (sides (goal.at.end_of_path-requires-2 c).After-pair-pair).right_there).0

pub same_ids-requires-clause-first : goal.same_ids-requires-clause-first
same_ids-requires-clause-first c = (c.in_ok-right.ensures.kept c.in_ok-left.left c.in_ok-left.ensures.there).0

pub same_ids-requires-clause-second : goal.same_ids-requires-clause-second
same_ids-requires-clause-second c = c.in_ok-right.ensures.there

pub returns-in_err-left-clause-answers : goal.returns-in_err-left-clause-answers
returns-in_err-left-clause-answers c = λ all p held there.
    let side = c.pair-pair.ensures all p held there in
    let q = err_from_is_err_and c.from_residual.result c.from_residual.ensures.1 in
    rw (q.1, q.2) (left_refused c.args.trs.now.rules c.args.n p c.args.join.now (tree_of c.args.peaks.now c.pair-pair.result.left) c.deref.result.now side.left
    (c.deref.ensures.value ∙ ap (λ (j : PathsOfJoin). j.left) c.join.view_is) _ c.in_err-left.ensures.end)

pub returns-in_err-right-clause-answers : goal.returns-in_err-right-clause-answers
returns-in_err-right-clause-answers c = λ all p held there.
    let side = c.pair-pair.ensures all p held there in
    let q = err_from_is_err_and c.from_residual-in_err-right.result c.from_residual-in_err-right.ensures.1 in
    rw (q.1, q.2) (right_refused c.args.trs.now.rules c.args.n p c.args.join.now (tree_of c.args.peaks.now c.pair-pair.result.left) c.deref.result.now side.left
    (c.deref.ensures.value ∙ ap (λ (j : PathsOfJoin). j.left) c.join.view_is) _ c.in_ok-left.ensures.end
    (tree_of c.end_of_path.new.self c.pair-pair.result.right) c.deref-2.result.now ((c.in_ok-left.ensures.kept c.pair-pair.result.right side.right_there).1 ∙ side.right)
    (c.deref-2.ensures.value ∙ ap (λ (j : PathsOfJoin). j.right) c.join.view_is) _ c.in_err-right.ensures.end)

pub returns-in_err-right-clause-peaks : goal.returns-in_err-right-clause-peaks
returns-in_err-right-clause-peaks c = λ all held. c.in_err-right.ensures.peaks all (c.in_ok-left.ensures.peaks all held)

pub returns-clause-answers : goal.returns-clause-answers
returns-clause-answers c = λ all p held there.
    let side = c.pair-pair.ensures all p held there in
    ends_answer c.args.trs.now.rules c.args.n p c.args.join.now (tree_of c.args.peaks.now c.pair-pair.result.left) c.deref.result.now side.left
    (c.deref.ensures.value ∙ ap (λ (j : PathsOfJoin). j.left) c.join.view_is) _ c.in_ok-left.ensures.end
    (tree_of c.end_of_path.new.self c.pair-pair.result.right) c.deref-2.result.now ((c.in_ok-left.ensures.kept c.pair-pair.result.right side.right_there).1 ∙ side.right)
    (c.deref-2.ensures.value ∙ ap (λ (j : PathsOfJoin). j.right) c.join.view_is)
    (tree_of c.end_of_path-2.new.self c.in_ok-left.left) _ c.same_ids.result c.in_ok-right.ensures.end (c.in_ok-right.ensures.kept c.in_ok-left.left c.in_ok-left.ensures.there).1 c.same_ids.ensures

pub returns-clause-peaks : goal.returns-clause-peaks
returns-clause-peaks c = λ all held. c.in_ok-right.ensures.peaks all (c.in_ok-left.ensures.peaks all held)
