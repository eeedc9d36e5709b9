use Rattle.std.proofs.Common.{◌≡◌, take}
use Rattle.order_search.proofs.marking.lend_marked.Given as goal

abbrev pub invariant-loop-rule : goal.invariant-loop-rule
invariant-loop-rule l = l.lent.items ≡ take l.rule-index l.rules
