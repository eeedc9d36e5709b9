use Rattle.std.proofs.Common.{[], drop}
use Rattle.crit_pairs.specs.PeakList.{spots, spots_from}
use Rattle.crit_pairs.specs.Walk.{Reaches}
use Rattle.crit_pairs.proofs.listing.list_by.Given as goal

abbrev pub invariant-loop-j : goal.invariant-loop-j
invariant-loop-j g l = record {
  reaches : Reaches l.trs.rules l.most [] 0 (spots l.trs.rules) l.peaks (spots_from l.trs.rules l.j (drop l.j l.trs.rules));
  held : g.T.PeakTop.holds l.peaks.terms l.trs.rules l.peaks.list.items;
}
