use Rattle.std.proofs.Common.{◌≡◌, ◌+◌, ◌<◌, ℕ, length, drop}
use Rattle.trs_defs.specs.LeastVariable.{least_variable, least_of_all}
use Rattle.trs_defs.specs.Variable.{occurrences, occurrences_in_all}
use Rattle.trs_core.specs.Marked.{times_met}
use Rattle.trs_core.specs.View.{tree, forest}
use Rattle.trs_core.specs.declared.linear.TheConstants.{WINDOW}
use Rattle.trs_core.proofs.linear.+mark_variables.Given as goal

abbrev pub invariant-loop-arg : goal.invariant-loop-arg
invariant-loop-arg l = record {
  length : length l.marks ≡ WINDOW;
  met : (i : ℕ) → i < WINDOW
      → times_met l.marks i + occurrences_in_all (l.from + i) (forest (drop l.arg-index l.arg-items))
      ≡ times_met l.fn.marks i + occurrences (l.from + i) (tree l.t);
  next : least_of_all (l.from + WINDOW) l.next (forest (drop l.arg-index l.arg-items)) ≡ least_variable (l.from + WINDOW) l.fn.next (tree l.t);
}
