use Rattle.std.proofs.Common.{List}
use Rattle.path_lpo.specs.Table.{PathEntry}
use Rattle.order_search.proofs.Answered.{reads_order}
use Rattle.lpo_find.specs.LpoRow.{path_entry, path_search}
use Rattle.lpo_find.proofs.table.LpoSpaceReadable.read.Goals as goal

pub returns : goal.returns
returns c =
    let x = c.args.self.now in
    reads_order (path_search x.arities.now x.symbols.now x.rules.now x.pairs.now) (path_entry x.arities.now) (λ (order : List PathEntry). order) x.symbols.now c.args.values.now
    c.order_of.result c.order_of.ensures
