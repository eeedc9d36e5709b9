use Rattle.std.proofs.Common.{◌≡◌, ◌++◌, map, drop}
use Rattle.sexp_core.specs.Items.{items_of}
use Rattle.sexp_core.specs.Printed.{spaced}
use Rattle.tree_definitions.specs.Reports.{failed_of}
use Rattle.report_text.specs.GoalLines.{failed_item}
use Rattle.report_text.proofs.failures.put_failures.Given as goal

abbrev pub invariant-loop-strategy : goal.invariant-loop-strategy
invariant-loop-strategy l =
    l.out.items ++ spaced (items_of (map failed_item (map failed_of (drop l.strategy-index l.failed))))
    ≡ l.initial.out.items ++ spaced (items_of (map failed_item (map failed_of l.failed)))
