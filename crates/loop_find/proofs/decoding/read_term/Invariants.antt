use Rattle.std.proofs.Common.{◌≡◌, ◌≤◌, map, reverse, drop, length}
use Rattle.trs_core.specs.View.{tree}
use Rattle.loop_find.specs.Flat.{terms_of}
use Rattle.loop_find.proofs.decoding.read_term.Given as goal

abbrev pub invariant-loop-at : goal.invariant-loop-at
invariant-loop-at l = record {
  within : l.at ≤ length l.tokens;
  read : map tree l.terms.items ≡ reverse (terms_of (drop l.at l.tokens));
}

abbrev pub decreases-loop-at : goal.decreases-loop-at
decreases-loop-at l = l.at
