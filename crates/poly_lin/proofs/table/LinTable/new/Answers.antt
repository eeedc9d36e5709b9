use Rattle.std.proofs.Common.{map, length, ◌≤◌}
use Rattle.std.proofs.lemmas.List.{length-map}
use Rattle.std.proofs.lemmas.Result.{err_from_is_err_and}
use Rattle.pair_order.proofs.Placing.{item_there}
use Rattle.pair_order.proofs.Making.{made_none, made_more, first_fault, no_fault}
use Rattle.poly_lin.specs.Plain.{plain}
use Rattle.poly_lin.specs.Table.{symbol_of}
use Rattle.poly_lin.specs.Faults.{IsEntryFault, number}
use Rattle.poly_lin.proofs.table.LinTable.new.Goals as goal

pub loop-symbol-init : goal.loop-symbol-init
loop-symbol-init c = rw c.new-symbols.ensures (made_none symbol_of IsEntryFault (map plain c.deref-symbol-items.result.now))

pub returns-in_err-add_entry-clause-fault : goal.returns-in_err-add_entry-clause-fault
returns-in_err-add_entry-clause-fault c =
    let p = err_from_is_err_and c.from_residual.result c.from_residual.ensures.1 in
    let item = c.loop-symbol-item.result in
    let items = c.deref-symbol-items.result.now in
    rw (p.1, p.2, ← c.deref-symbol-items.ensures.value)
    (λ some. first_fault symbol_of IsEntryFault (map plain items) number c.loop-symbol.symbol-index c.loop-symbol.symbols (plain item) c.in_err-add_entry.field-0.0
    c.loop-symbol.invariant (item_there plain symbol_of items c.loop-symbol.symbol-index item c.loop-symbol-test.true c.loop-symbol-item.is)
    ((rw c.deref.ensures.value at c.in_err-add_entry.ensures.fault) some))

pub loop-symbol-preserved : goal.loop-symbol-preserved
loop-symbol-preserved c =
    let item = c.loop-symbol-item.result in
    let items = c.deref-symbol-items.result.now in
    made_more symbol_of IsEntryFault (map plain items) c.loop-symbol.symbol-index c.loop-symbol.symbols c.add_entry.new.symbols (plain item) c.loop-symbol.invariant
    (item_there plain symbol_of items c.loop-symbol.symbol-index item c.loop-symbol-test.true c.loop-symbol-item.is)
    c.in_ok-add_entry.ensures.symbols (rw c.deref.ensures.value at c.in_ok-add_entry.ensures.faultless)

pub returns-clause-faultless : goal.returns-clause-faultless
returns-clause-faultless c =
    let items = c.deref-symbol-items.result.now in
    let le : length (map plain items) ≤ c.loop-symbol.symbol-index = rw (length-map items plain) c.loop-symbol-test.false in
    rw (← c.deref-symbol-items.ensures.value) (no_fault symbol_of IsEntryFault (map plain items) c.loop-symbol.symbol-index c.loop-symbol.symbols c.loop-symbol.invariant le)
