use Rattle.std.specs.Vec.{vec_len}
use Rattle.std.proofs.Common.{◌≡◌, Some, slice_get, get_or, arith, subst}
use Rattle.std.proofs.lemmas.Option.{slice_get-get_or}
use Rattle.dp_graph.specs.GraphConditions.{lists_of}
use Rattle.dp_graph.proofs.ListPlaces.{row_at}
use Rattle.dp_graph.proofs.WaitingLaws.{free_leader, no_free_leader}
use Rattle.dp_graph.proofs.waiting.is_free.Goals as goal

pub returns-then-leaders-v : goal.returns-then-leaders-v
returns-then-leaders-v c =
    no_free_leader c.args.leaders.now (lists_of c.args.blockers.now) c.args.v (get_or c.args.leaders.now c.args.v 0) (slice_get-get_or c.args.leaders.now c.args.v 0 c.requires.leaders) c.if-leaders-v.true

pub returns : goal.returns
returns c =
    let lt = c.requires.leaders in
    let size = c.requires.blockers in
    let at = row_at c.args.blockers.now c.args.v c.index-blockers-v.result (omega (arith, lt, size)) c.index-blockers-v.is in
    free_leader c.args.leaders.now (lists_of c.args.blockers.now) c.args.v c.index-blockers-v.result.items (vec_len c.index-blockers-v.result) c.is_empty.result
    (subst (λ z. slice_get c.args.leaders.now c.args.v ≡ Some z) c.if-leaders-v.false (slice_get-get_or c.args.leaders.now c.args.v 0 lt)) at
    c.index-blockers-v.result.ok.0 c.is_empty.ensures
