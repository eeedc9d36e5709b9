use Rattle.std.proofs.Common.{true, refl}
use Rattle.std.specs.Vec.{with_item}
use Rattle.dp_graph.specs.GraphConditions.{lists_of}
use Rattle.dp_graph.specs.Waiting.{Other, OfRows}
use Rattle.dp_graph.proofs.WaitingLaws.{released}
use Rattle.dp_graph.proofs.waiting.Waiting.release.Goals as goal

pub returns : goal.returns
returns c =
    let old = c.args.self.now in
    released old (record { blockers = old.blockers; out = with_item old.out c.args.v true; ready = old.ready }) c.look_at_rows.new.self c.args.v
    (Other c.args.v (OfRows (lists_of c.args.rows.now) c.args.leaders.now c.args.places.now)) c.requires.leader refl refl refl c.in_ok-look_at_rows.ensures
