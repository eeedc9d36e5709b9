use Rattle.std.proofs.Common.{◌≡◌, ◌++◌}
use Rattle.tree_definitions.specs.Reports.{numbers}
use Rattle.tree_state.proofs.walking.push_numbers.Given as goal

abbrev pub invariant-loop-k : goal.invariant-loop-k
invariant-loop-k l = l.order.items ≡ l.fn.order.items ++ numbers l.first l.k
