use Rattle.std.proofs.Common.{map}
use Rattle.pair_order.proofs.Making.{Made}
use Rattle.poly_lin.specs.Plain.{plain}
use Rattle.poly_lin.specs.Table.{symbol_of}
use Rattle.poly_lin.specs.Faults.{IsEntryFault}
use Rattle.poly_lin.proofs.table.LinTable.new.Given as goal

abbrev pub invariant-loop-symbol : goal.invariant-loop-symbol
invariant-loop-symbol l = Made symbol_of IsEntryFault (map plain l.symbol-items) l.symbol-index l.symbols
