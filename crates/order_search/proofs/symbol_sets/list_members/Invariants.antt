use Rattle.order_search.proofs.Growing.{ListedBelow}
use Rattle.order_search.proofs.symbol_sets.list_members.Given as goal

abbrev pub invariant-loop-place : goal.invariant-loop-place
invariant-loop-place l = ListedBelow l.set l.place l.members.items
