use Rattle.crit_pairs.proofs.SpotPeaks.{no_places}
use Rattle.term_pool.proofs.PoolTrees.{stands_at, stands_within}
use Rattle.crit_pairs.proofs.PooledResultLaws.{whole_results_are}
use Rattle.crit_pairs.proofs.pooled_results.whole_results.Goals as goal

pub returns : goal.returns
returns c = λ rules pool pooled unifier u.
    let left = c.in_ok-left.ensures.stands rules pool u.inner pooled u.inner_numbered in
    let right = c.in_ok-right.ensures.stands rules pool u.outer pooled u.outer_numbered in
    whole_results_are rules c.args.j c.args.i c.args.place.now unifier u pool _ (no_places c.args.place.now c.is_empty.result c.is_empty.ensures c.if-not-is_empty.false)
    (stands_within pool c.in_ok-left.left u.inner.right left) (stands_within pool c.in_ok-right.right u.outer.right right)
    (stands_at pool c.in_ok-left.left u.inner.right left) (stands_at pool c.in_ok-right.right u.outer.right right)
    (c.in_ok-left.ensures.ground rules pool u.inner pooled u.inner_numbered) (c.in_ok-right.ensures.ground rules pool u.outer pooled u.outer_numbered)
