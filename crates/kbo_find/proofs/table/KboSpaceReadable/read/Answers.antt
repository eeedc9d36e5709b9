use Rattle.kbo_order.specs.declared.table.Kbo.{Kbo}
use Rattle.order_search.proofs.Answered.{reads_order}
use Rattle.kbo_find.specs.KboRow.{kbo_entry, kbo_search}
use Rattle.kbo_find.proofs.table.KboSpaceReadable.read.Goals as goal

pub returns : goal.returns
returns c =
    let x = c.args.self.now in
    reads_order (kbo_search x.arities.now x.symbols.now x.rules.now x.pairs.now) (kbo_entry x.arities.now) (λ (order : Kbo). order.entries.items) x.symbols.now c.args.values.now
    c.order_of.result c.order_of.ensures
