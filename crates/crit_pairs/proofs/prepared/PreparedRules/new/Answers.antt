use Rattle.std.proofs.Common.{[], length, map, ap}
use Rattle.trs_core.specs.View.{tree}
use Rattle.crit_pairs.specs.SkeletonView.{skeleton_view}
use Rattle.crit_pairs.proofs.EqualRules.{no_numbers}
use Rattle.crit_pairs.proofs.prepared.PreparedRules.new.Goals as goal

pub returns : goal.returns
returns c = record {
  apart_lefts = ap (map tree) c.new.ensures.items;
  skeletons = ap (map skeleton_view) c.new-2.ensures.items;
  roots = c.new-3.ensures.items;
  numbered = ap length c.new-4.ensures;
  equal = no_numbers [] _ c.new-4.ensures;
}
