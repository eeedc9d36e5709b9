use Rattle.std.proofs.Common.{◌≡◌, ◌++◌}
use Rattle.order_search.proofs.roots.list_members.Given as goal

abbrev pub invariant-loop-f : goal.invariant-loop-f
invariant-loop-f l = l.members.items ++ l.f-iterator ≡ l.set.keys
