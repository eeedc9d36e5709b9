use Rattle.std.proofs.Common.{◌≡◌, ◌++◌, ◌+◌, map, drop}
use Rattle.order_search.proofs.symbols.add_marked.Given as goal

abbrev pub invariant-loop-f : goal.invariant-loop-f
invariant-loop-f l = l.fn.symbols.items ++ map (λ f. f + 4096) l.roots ≡ l.symbols.items ++ map (λ f. f + 4096) (drop l.f-index l.roots)
