use Rattle.std.specs.Prelude.{Ok}
use Rattle.std.proofs.lemmas.Result.{err_from_is_err_and}
use Rattle.trs_core.specs.View.{tree}
use Rattle.nonjoin.specs.term_pool.Pooled.{tree_at}
use Rattle.nonjoin.proofs.term_pool.PoolTrees.{stands_at, stands_within}
use Rattle.rewrite_core.specs.Check.{Refuses}
use Rattle.rewrite_core.specs.PathCheck.{Runs}
use Rattle.rewrite_core.proofs.Answering.{refused_first, refused_later}
use Rattle.cert_step.proofs.ForkEnds.{still_start, ends_apart, ends_not_apart}
use Rattle.cert_step.proofs.fork_step.fork_by_caps.Goals.{In_ok-left_end, In_ok-right_end}
use Rattle.cert_step.proofs.fork_step.fork_by_caps.Goals as goal

pub end_in_pool-requires : goal.end_in_pool-requires
end_in_pool-requires c = stands_within c.intern.new.self c.in_ok-id.id (tree c.args.start.now) c.in_ok-id.ensures.id

pub end_in_pool-requires-2 : goal.end_in_pool-requires-2
end_in_pool-requires-2 c =
    stands_within c.end_in_pool.new.pool c.in_ok-id.id (tree c.args.start.now) (c.end_in_pool.ensures.kept.kept c.in_ok-id.id (tree c.args.start.now) c.in_ok-id.ensures.id)

left_runs : (c : In_ok-left_end) → Runs c.args.trs.now.rules (tree c.args.start.now) c.args.left.now 0 0 (Ok (tree_at c.end_in_pool.new.pool c.in_ok-left_end.left_end))
left_runs c = rw (stands_at c.intern.new.self c.in_ok-id.id (tree c.args.start.now) c.in_ok-id.ensures.id) at c.in_ok-left_end.ensures.end

right_runs : (c : In_ok-right_end) → Runs c.args.trs.now.rules (tree c.args.start.now) c.args.right.now 0 1 (Ok (tree_at c.end_in_pool-2.new.pool c.in_ok-right_end.right_end))
right_runs c =
    rw (still_start c.intern.new.self c.end_in_pool.new.pool c.in_ok-id.id (tree c.args.start.now) c.in_ok-id.ensures.id c.end_in_pool.ensures.kept) at c.in_ok-right_end.ensures.end

pub returns-in_err-left_end : goal.returns-in_err-left_end
returns-in_err-left_end c =
    let p = err_from_is_err_and c.from_residual-in_err-left_end.result c.from_residual-in_err-left_end.ensures.1 in
    let refused : Refuses (Runs c.args.trs.now.rules (tree c.args.start.now) c.args.left.now 0 0) c.in_err-left_end.field-0.0 =
    rw (stands_at c.intern.new.self c.in_ok-id.id (tree c.args.start.now) c.in_ok-id.ensures.id) at c.in_err-left_end.ensures.end in
    rw (p.1, p.2) (refused_first _ _ _ refused)

pub returns-in_err-right_end : goal.returns-in_err-right_end
returns-in_err-right_end c =
    let p = err_from_is_err_and c.from_residual-in_err-right_end.result c.from_residual-in_err-right_end.ensures.1 in
    let refused : Refuses (Runs c.args.trs.now.rules (tree c.args.start.now) c.args.right.now 0 1) c.in_err-right_end.field-0.0 =
    rw (still_start c.intern.new.self c.end_in_pool.new.pool c.in_ok-id.id (tree c.args.start.now) c.in_ok-id.ensures.id c.end_in_pool.ensures.kept) at c.in_err-right_end.ensures.end in
    rw (p.1, p.2) (refused_later _ _ _ _ (left_runs (goal.at.returns-in_err-right_end c).In_ok-left_end) (refused_first _ _ _ refused))

pub returns-then-not-branch : goal.returns-then-not-branch
returns-then-not-branch c =
    let a = goal.at.returns-then-not-branch c in
    ends_not_apart c.args.trs.now.rules (tree c.args.start.now) c.args.left.now c.args.right.now c.end_in_pool.new.pool c.end_in_pool-2.new.pool c.in_ok-left_end.left_end c.in_ok-right_end.right_end
    c.end_in_pool-2.ensures.kept c.in_ok-left_end.ensures.there (left_runs a.In_ok-left_end) (right_runs a.In_ok-right_end) c.in_ok-apart_in_pool.field-0 c.in_ok-apart_in_pool.ensures.caps c.if-not-branch.true

pub returns : goal.returns
returns c =
    let a = goal.at.returns c in
    ends_apart c.args.trs.now.rules (tree c.args.start.now) c.args.left.now c.args.right.now c.end_in_pool.new.pool c.end_in_pool-2.new.pool c.in_ok-left_end.left_end c.in_ok-right_end.right_end
    c.end_in_pool-2.ensures.kept c.in_ok-left_end.ensures.there (left_runs a.In_ok-left_end) (right_runs a.In_ok-right_end) c.in_ok-apart_in_pool.field-0 c.in_ok-apart_in_pool.ensures.caps c.if-not-branch.false
