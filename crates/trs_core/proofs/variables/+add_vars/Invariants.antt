use Rattle.std.proofs.Common.{◌≡◌, drop}
use Rattle.trs_defs.specs.Variable.{with_variables, with_variables_of_all}
use Rattle.trs_core.specs.Seen.{HasItems}
use Rattle.trs_core.specs.View.{tree, forest}
use Rattle.trs_core.proofs.variables.+add_vars.Given as goal

abbrev pub invariant-loop-arg : goal.invariant-loop-arg
invariant-loop-arg l = record {
  walk : with_variables_of_all l.vars.items (forest (drop l.arg-index l.arg-items)) ≡ with_variables l.fn.vars.items (tree l.t);
  listed : HasItems l.seen l.vars.items;
}
