use Rattle.std.proofs.Common.{◌≤◌, map, length}
use Rattle.trs_defs.specs.Size.{size_of}
use Rattle.trs_core.specs.View.{tree}
use Rattle.path_lpo.specs.Graph.{Keeps, StandsFor, list}
use Rattle.path_lpo.proofs.Listing.{listed_from}
use Rattle.path_lpo.proofs.sharing.+share.Given as goal

abbrev pub decreases-share : goal.decreases-share
decreases-share g l = size_of (tree l.t.now)

-- the list of the arguments from the place on is there
abbrev pub invariant-loop-k : goal.invariant-loop-k
invariant-loop-k g l = record {
  within : l.k ≤ length l.kept.places.now;
  stands : StandsFor l.graph.nodes.items l.list (list (listed_from (g.P.Precedence.filters l.order) l.kept.places.now (map tree l.kept.args.now) l.k));
  kept : Keeps l.fn.graph.nodes.items l.graph.nodes.items;
}

abbrev pub decreases-loop-k : goal.decreases-loop-k
decreases-loop-k g l = l.k
