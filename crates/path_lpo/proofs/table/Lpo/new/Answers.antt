use Rattle.std.proofs.Common.{map, length, ◌≤◌}
use Rattle.std.proofs.lemmas.List.{length-map}
use Rattle.std.proofs.lemmas.Result.{err_from_is_err_and}
use Rattle.pair_order.proofs.Placing.{item_there}
use Rattle.pair_order.proofs.Making.{made_more, first_fault, no_fault}
use Rattle.path_lpo.specs.Plain.{plain}
use Rattle.path_lpo.specs.Table.{symbol_of}
use Rattle.path_lpo.specs.Faults.{IsEntryFault, number}
use Rattle.path_lpo.proofs.table.Lpo.new.Goals as goal

pub returns-in_err-add_entry-clause-fault : goal.returns-in_err-add_entry-clause-fault
returns-in_err-add_entry-clause-fault c =
    let p = err_from_is_err_and c.from_residual.result c.from_residual.ensures.1 in
    let item = c.entry-item.result in
    let items = c.deref-entry-items.result.now in
    rw (p.1, p.2, ← c.deref-entry-items.ensures.value)
    (λ some. first_fault symbol_of IsEntryFault (map plain items) number c.loop-entry.entry-index c.loop-entry.symbols (plain item) c.in_err-add_entry.field-0.0
    c.loop-entry.invariant (item_there plain symbol_of items c.loop-entry.entry-index item c.loop-entry-test.true c.entry-item.is)
    (c.in_err-add_entry.ensures.fault some))

pub loop-entry-preserved : goal.loop-entry-preserved
loop-entry-preserved c =
    let item = c.entry-item.result in
    let items = c.deref-entry-items.result.now in
    made_more symbol_of IsEntryFault (map plain items) c.loop-entry.entry-index c.loop-entry.symbols c.add_entry.new.symbols (plain item) c.loop-entry.invariant
    (item_there plain symbol_of items c.loop-entry.entry-index item c.loop-entry-test.true c.entry-item.is)
    c.in_ok-add_entry.ensures.symbols c.in_ok-add_entry.ensures.faultless

pub returns-clause-faultless : goal.returns-clause-faultless
returns-clause-faultless c =
    let items = c.deref-entry-items.result.now in
    let le : length (map plain items) ≤ c.loop-entry.entry-index = rw (length-map items plain) c.loop-entry-test.false in
    rw (← c.deref-entry-items.ensures.value) (no_fault symbol_of IsEntryFault (map plain items) c.loop-entry.entry-index c.loop-entry.symbols c.loop-entry.invariant le)
