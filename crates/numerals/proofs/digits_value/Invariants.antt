use Rattle.std.proofs.Common.{◌≡◌, ◌≤◌, drop}
use Rattle.numerals.specs.Numerals.{digits_behind}
use Rattle.numerals.proofs.digits_value.Given as goal

abbrev pub invariant-loop-digit : goal.invariant-loop-digit
invariant-loop-digit l = record {
  value : digits_behind l.limit l.value (drop l.digit-index l.digits) ≡ digits_behind l.limit 0 l.digits;
  small : l.value ≤ l.limit;
}
