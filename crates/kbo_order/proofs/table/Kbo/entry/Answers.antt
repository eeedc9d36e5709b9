use Rattle.std.proofs.Common.{ap, sym, ◌∙◌}
use Rattle.kbo_order.specs.Table.{symbol_of}
use Rattle.pair_order.specs.Entries.{place_among}
use Rattle.pair_order.proofs.Placing.{copied_item, entry_there, entry_absent}
use Rattle.kbo_order.proofs.table.Kbo.entry.Goals as goal

pub returns-in-Some : goal.returns-in-Some
returns-in-Some c =
    copied_item c.args.self.now.entries.items c.in-Some.place c.get.result (rw c.deref.ensures.value at c.get.ensures.lookup)
    ∙ sym (entry_there symbol_of c.args.self.now.entries.items c.args.symbol c.in-Some.place c.place.result
    (c.place.ensures ∙ ap (λ gs. place_among gs c.args.symbol) c.args.self.now.indexed) c.in-Some.is)

pub returns-in-None : goal.returns-in-None
returns-in-None c =
    sym (entry_absent symbol_of c.args.self.now.entries.items c.args.symbol c.place.result
    (c.place.ensures ∙ ap (λ gs. place_among gs c.args.symbol) c.args.self.now.indexed) c.in-None.is)
