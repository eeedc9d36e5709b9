use Rattle.poly_lin.specs.Plain.{plain}
use Rattle.poly_lin.specs.Table.{symbol_of}
use Rattle.pair_order.proofs.Placing.{read_entry, no_entry}
use Rattle.poly_lin.proofs.table.LinTable.entry.Goals as goal

pub returns-in-Some : goal.returns-in-Some
returns-in-Some c =
    read_entry plain symbol_of c.self.inside.entries.items _ c.self.inside.symbols c.args.symbol c.in-Some.place c.place.result c.get.result
    c.self.view_is c.self.invariant c.place.ensures c.in-Some.is (rw c.deref.ensures.value at c.get.ensures.lookup)

pub returns-in-None : goal.returns-in-None
returns-in-None c =
    no_entry plain symbol_of c.self.inside.entries.items _ c.self.inside.symbols c.args.symbol c.place.result c.self.view_is c.self.invariant
    c.place.ensures c.in-None.is
