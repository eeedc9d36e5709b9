use Rattle.std.proofs.Common.{map, take}
use Rattle.pair_order.proofs.Making.{Made}
use Rattle.kbo_order.specs.Table.{symbol_of}
use Rattle.kbo_order.specs.Faults.{IsEntryFault, IsTopFault}
use Rattle.kbo_order.proofs.table.Kbo.new.Given as goal

abbrev pub invariant-loop-entry : goal.invariant-loop-entry
invariant-loop-entry l = Made symbol_of IsEntryFault l.entry-items l.entry-index l.symbols

abbrev pub invariant-loop-entry-2 : goal.invariant-loop-entry-2
invariant-loop-entry-2 l = Made symbol_of (IsTopFault l.entry-items) l.entry-items l.entry-index (map symbol_of (take l.entry-index l.entry-items))
