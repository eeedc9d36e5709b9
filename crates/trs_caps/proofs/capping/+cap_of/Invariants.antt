use Rattle.std.proofs.Common.{take}
use Rattle.trs_defs.specs.Size.{size_of}
use Rattle.trs_core.specs.View.{tree, forest}
use Rattle.trs_caps.specs.HoledTree.{symbol}
use Rattle.trs_caps.specs.HoledCap.{AreHoledCaps}
use Rattle.trs_caps.specs.KnownCaps.{AreKnown}
use Rattle.trs_caps.specs.Shapes.{IsShape}
use Rattle.trs_caps.specs.View.{holed_all}
use Rattle.trs_caps.proofs.capping.+cap_of.Given as goal

abbrev pub invariant-loop-i : goal.invariant-loop-i
invariant-loop-i l = record {
  caps : AreHoledCaps l.by_root.rules l.fixed (forest (take l.i l.arg-items)) (holed_all l.items.items);
  known : AreKnown l.by_root.rules l.fixed l.pool l.opens;
  shape : IsShape (symbol 0 (holed_all l.items.items)) l.whole;
}

abbrev pub decreases-cap_of : goal.decreases-cap_of
decreases-cap_of l = size_of (tree l.t.now)
