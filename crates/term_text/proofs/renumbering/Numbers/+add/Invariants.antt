use Rattle.std.proofs.Common.{◌≡◌, drop}
use Rattle.trs_defs.specs.Variable.{with_variables, with_variables_of_all}
use Rattle.trs_core.specs.View.{tree, forest}
use Rattle.term_text.proofs.renumbering.Numbers.+add.Given as goal

abbrev pub invariant-loop-arg : goal.invariant-loop-arg
invariant-loop-arg l =
    with_variables_of_all l.self (forest (drop l.arg-index l.arg-items)) ≡ with_variables l.fn.self (tree l.term)
