use Rattle.std.proofs.Common.{ℕ, ◌↔◌, ◌-◌, ◌+◌, length}
use Rattle.order_search.specs.SymbolSets.{Has}
use Rattle.order_search.proofs.symbol_sets.add.Given as goal

abbrev pub invariant-loop-set : goal.invariant-loop-set
invariant-loop-set l = (g : ℕ) → Has l.set.items g ↔ Has l.fn.set.items g

abbrev pub decreases-loop-set : goal.decreases-loop-set
decreases-loop-set l = (l.place + 1) - length l.set.items
