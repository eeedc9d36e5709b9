use Rattle.std.proofs.Common.{◌≡◌, length, drop}
use Rattle.trs_caps.specs.Clash.{clash, some_clash}
use Rattle.trs_caps.specs.View.{holed, holed_all}
use Rattle.trs_caps.proofs.holed.Cap.+clashes.Given as goal

abbrev pub invariant-loop-i : goal.invariant-loop-i
invariant-loop-i l =
    (length l.c-items ≡ length l.ds-inside.items.items)
    × (some_clash (holed_all (drop l.i l.c-items)) (holed_all (drop l.i l.ds-inside.items.items)) ≡ clash (holed l.self) (holed l.other))
