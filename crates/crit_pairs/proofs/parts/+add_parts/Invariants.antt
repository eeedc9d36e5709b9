use Rattle.std.proofs.Common.{◌≡◌, ◌+◌, ◌≤◌, ◌++◌, All, Some, map, drop, length}
use Rattle.std.specs.List.{filter}
use Rattle.trs_defs.specs.Position.{subterm_at}
use Rattle.trs_defs.specs.Size.{size_of}
use Rattle.trs_defs.specs.Tree.{Tree}
use Rattle.trs_core.specs.View.{tree, forest}
use Rattle.term_pool.specs.Redexes.{AreNarrow}
use Rattle.crit_pairs.specs.Parts.{IsPartIn, place_of_part, has_rule_at}
use Rattle.crit_pairs.specs.PeakList.{symbol_places}
use Rattle.crit_pairs.proofs.PartLaws.{places_below}
use Rattle.crit_pairs.proofs.parts.+add_parts.Given as goal

abbrev pub invariant-loop-i : goal.invariant-loop-i
invariant-loop-i l = record {
  places : (whole : Tree) → subterm_at l.fn.place.items whole ≡ Some (tree l.t)
      → map place_of_part l.parts.items ++ filter (has_rule_at l.rules.rules whole) (places_below l.fn.place.items (l.i + 1) (forest (drop l.i l.arg-items)))
      ≡ map place_of_part l.fn.parts.items ++ filter (has_rule_at l.rules.rules whole) (map (λ q. l.fn.place.items ++ q) (symbol_places (tree l.t)));
  each : (whole : Tree) → subterm_at l.fn.place.items whole ≡ Some (tree l.t) → All (IsPartIn whole) l.fn.parts.items → All (IsPartIn whole) l.parts.items;
  narrow : AreNarrow (forest (drop l.i l.arg-items));
  few : length l.arg-items ≤ 255;
  same : l.place.items ≡ l.fn.place.items;
}

abbrev pub decreases-add_parts : goal.decreases-add_parts
decreases-add_parts l = size_of (tree l.t.now)
