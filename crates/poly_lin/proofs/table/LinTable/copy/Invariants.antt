use Rattle.std.proofs.Common.{◌≡◌, map, take}
use Rattle.poly_lin.specs.Plain.{plain}
use Rattle.poly_lin.proofs.table.LinTable.copy.Given as goal

abbrev pub invariant-loop-symbol : goal.invariant-loop-symbol
invariant-loop-symbol l = map plain l.entries.items ≡ map plain (take l.symbol-index l.symbol-items)
