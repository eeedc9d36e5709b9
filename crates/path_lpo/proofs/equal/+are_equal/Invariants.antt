use Rattle.std.proofs.Common.{◌≡◌, length}
use Rattle.path_lpo.proofs.Equality.{EqualFrom}
use Rattle.path_lpo.proofs.equal.+are_equal.Given as goal

abbrev pub invariant-loop-i : goal.invariant-loop-i
invariant-loop-i l = record {
  same_length : length l.x-items ≡ length l.gs-inside.items.items;
  rest : EqualFrom l.x-items l.gs-inside.items.items l.i;
}
