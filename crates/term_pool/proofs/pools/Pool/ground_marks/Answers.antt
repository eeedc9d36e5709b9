use Rattle.std.proofs.Common.{◌∷◌, [], length-append, arith}
use Rattle.term_pool.proofs.LeftSideLaws.{one_more_mark}
use Rattle.term_pool.proofs.pools.Pool.ground_marks.Goals as goal

pub loop-id-preserved : goal.loop-id-preserved
loop-id-preserved c =
    let so_far = c.loop-id.invariant in
    let mark = c.is_over_marked-mark.result in
    rw c.in_ok-push.ensures.items (record {
      count = omega (arith, so_far.count, length-append c.loop-id.marks.items (mark ∷ []));
      ground = one_more_mark c.args.self.now c.loop-id.marks.items mark c.loop-id.id so_far.count so_far.ground c.is_over_marked-mark.ensures;
    })
