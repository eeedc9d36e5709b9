use Rattle.std.proofs.Common.{map}
use Rattle.pair_order.proofs.Making.{Made}
use Rattle.path_lpo.specs.Plain.{plain}
use Rattle.path_lpo.specs.Table.{symbol_of}
use Rattle.path_lpo.specs.Faults.{IsEntryFault}
use Rattle.path_lpo.proofs.table.Lpo.new.Given as goal

abbrev pub invariant-loop-entry : goal.invariant-loop-entry
invariant-loop-entry l = Made symbol_of IsEntryFault (map plain l.entry-items) l.entry-index l.symbols
