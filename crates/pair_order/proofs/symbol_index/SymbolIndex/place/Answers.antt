use Rattle.std.proofs.Common.{◌∙◌}
use Rattle.pair_order.proofs.Placing.{place_at}
use Rattle.pair_order.proofs.symbol_index.SymbolIndex.place.Goals as goal

pub returns : goal.returns
returns c = rw (← c.self.view_is) (c.get_index_of.ensures.index ∙ place_at c.args.symbol c.self.inside.symbols.keys)
