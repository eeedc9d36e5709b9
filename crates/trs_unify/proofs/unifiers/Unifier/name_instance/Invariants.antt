use Rattle.std.proofs.Common.{◌≡◌, drop}
use Rattle.trs_defs.specs.Substitution.{apply, bound}
use Rattle.trs_defs.specs.Variable.{with_variables}
use Rattle.trs_core.specs.View.{tree}
use Rattle.trs_unify.specs.Renamed.{AreNames}
use Rattle.trs_unify.specs.Walked.{AreWalked}
use Rattle.trs_unify.proofs.ListedVariables.{variables_under}
use Rattle.trs_unify.proofs.unifiers.Unifier.name_instance.Given as goal

abbrev pub invariant-loop-v : goal.invariant-loop-v
invariant-loop-v l = record {
  names : AreNames l.names.numbers l.names.order.items;
  walked : AreWalked l.self-inside.nodes.items l.marks.items l.names.order.items;
  order : variables_under (bound l.self) l.names.order.items (drop l.v-index l.v-items) ≡ with_variables l.fn.names.order.items (apply (bound l.self) (tree l.t));
}
