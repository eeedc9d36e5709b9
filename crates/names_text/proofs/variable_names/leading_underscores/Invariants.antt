use Rattle.std.proofs.Common.{◌≡◌, ◌+◌, ◌≤◌, drop}
use Rattle.names_text.specs.VariableNames.{leading_underscores}
use Rattle.names_text.proofs.variable_names.leading_underscores.Given as goal

abbrev pub invariant-loop-b : goal.invariant-loop-b
invariant-loop-b l = record {
  same : l.count + leading_underscores (drop l.b-index l.name) ≡ leading_underscores l.name;
  within : l.count ≤ l.b-index;
}
