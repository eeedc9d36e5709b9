use Rattle.std.proofs.Common.{◌≡◌, ◌++◌, map, drop}
use Rattle.sexp_core.specs.Items.{items_of}
use Rattle.sexp_core.specs.Printed.{lines}
use Rattle.tree_definitions.specs.Reports.{part_of}
use Rattle.report_text.specs.GoalLines.{goal_words, goal_items}
use Rattle.report_text.proofs.reports.put_goals.Given as goal

abbrev pub invariant-loop-i : goal.invariant-loop-i
invariant-loop-i l =
    l.out.items ++ lines (items_of (goal_items l.system (drop l.i (goal_words l.question)) (map part_of (drop l.i l.parts))))
    ≡ l.fn.out.items ++ lines (items_of (goal_items l.system (goal_words l.question) (map part_of l.parts)))
