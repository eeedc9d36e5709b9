use Rattle.std.proofs.Common.{◌≡◌, ◌≤◌, drop, max}
use Rattle.names_text.specs.VariableNames.{underscores}
use Rattle.names_text.proofs.variable_names.underscores.Given as goal

abbrev pub invariant-loop-f : goal.invariant-loop-f
invariant-loop-f l = record {
  same : max l.most (underscores (drop l.f l.system.names)) ≡ underscores l.system.names;
  some : 1 ≤ l.most;
}
