use Rattle.lpo_find.proofs.FilterLists.{FiltersSoFar}
use Rattle.lpo_find.proofs.filters.arity_filters.Given as goal

abbrev pub invariant-loop-number : goal.invariant-loop-number
invariant-loop-number l = FiltersSoFar l.arity l.number l.filters.items
