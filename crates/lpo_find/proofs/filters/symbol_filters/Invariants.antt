use Rattle.std.proofs.Common.{◌≡◌, map, take}
use Rattle.order_search.specs.OrderSpace.{arity_with_mark}
use Rattle.lpo_find.specs.Filters.{plain_filters, filters_of}
use Rattle.lpo_find.proofs.filters.symbol_filters.Given as goal

abbrev pub invariant-loop-f : goal.invariant-loop-f
invariant-loop-f l = map plain_filters l.filters.items ≡ map (λ f. filters_of (arity_with_mark l.arities f)) (take l.f-index l.symbols)
