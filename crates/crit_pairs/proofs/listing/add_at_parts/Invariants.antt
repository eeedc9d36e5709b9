use Rattle.std.proofs.Common.{List, map, drop}
use Rattle.rewrite_core.specs.PlacedPeak.{PlacedPeak}
use Rattle.crit_pairs.specs.Parts.{place_of_part}
use Rattle.crit_pairs.specs.PeakList.{spots_of}
use Rattle.crit_pairs.specs.Walk.{Keeps, Reaches}
use Rattle.crit_pairs.proofs.listing.add_at_parts.Given as goal

abbrev pub invariant-loop-part : goal.invariant-loop-part
invariant-loop-part g l = record {
  moves : (before : List PlacedPeak) → Keeps l.fn.peaks before
      → Reaches l.rules.rules l.fn.peaks.most before l.fn.peaks.nodes (spots_of l.rules.rules l.j (map place_of_part l.parts))
      l.peaks (spots_of l.rules.rules l.j (map place_of_part (drop l.part-index l.parts)));
  held : g.T.PeakTop.holds l.peaks.terms l.rules.rules l.peaks.list.items;
}
