use Rattle.std.proofs.Common.{◌≡◌, length}
use Rattle.path_lpo.specs.Parts.{AreSpansOf}
use Rattle.path_lpo.proofs.parts.spans_of.Given as goal

abbrev pub invariant-loop-n : goal.invariant-loop-n
invariant-loop-n l = record {
  spans : AreSpansOf l.nodes l.spans.items;
  count : length l.spans.items ≡ l.n;
}
