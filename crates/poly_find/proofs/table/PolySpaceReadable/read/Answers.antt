use Rattle.std.proofs.Common.{ℕ, List}
use Rattle.order_search.proofs.Answered.{reads_order}
use Rattle.poly_find.specs.PolyRow.{poly_entry, poly_search}
use Rattle.poly_find.proofs.table.PolySpaceReadable.read.Goals as goal

pub returns : goal.returns
returns c =
    let x = c.args.self.now in
    reads_order (poly_search x.arities.now x.symbols.now x.rules.now x.pairs.now) (poly_entry x.arities.now) (λ (table : List (ℕ × List ℕ)). table) x.symbols.now c.args.values.now
    c.interpretation.result c.interpretation.ensures
