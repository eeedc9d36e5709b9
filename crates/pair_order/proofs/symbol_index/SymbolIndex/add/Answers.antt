use Rattle.std.proofs.Common.{◌∙◌, ap, not}
use Rattle.pair_order.proofs.Placing.{listed_any, symbols_inserted}
use Rattle.pair_order.proofs.symbol_index.SymbolIndex.add.Goals as goal

pub returns-in_ok-hint_at_last-clause-is_new : goal.returns-in_ok-hint_at_last-clause-is_new
returns-in_ok-hint_at_last-clause-is_new c =
    rw (← c.self.view_is) (c.in_ok-is_new.ensures.added ∙ ap not (listed_any c.args.symbol c.self.inside.symbols.keys))

pub returns-in_ok-hint_at_last-clause-symbols : goal.returns-in_ok-hint_at_last-clause-symbols
returns-in_ok-hint_at_last-clause-symbols c =
    c.in_ok-hint_at_last.ensures
    ∙ rw (← c.self.view_is) (symbols_inserted c.args.symbol c.self.inside.symbols.keys c.insert.new.self.keys c.in_ok-is_new.ensures.keys)

pub returns-else-is_new-clause-is_new : goal.returns-else-is_new-clause-is_new
returns-else-is_new-clause-is_new c =
    rw (← c.self.view_is) (c.in_ok-is_new.ensures.added ∙ ap not (listed_any c.args.symbol c.self.inside.symbols.keys))

pub returns-else-is_new-clause-symbols : goal.returns-else-is_new-clause-symbols
returns-else-is_new-clause-symbols c =
    rw (← c.self.view_is) (symbols_inserted c.args.symbol c.self.inside.symbols.keys c.insert.new.self.keys c.in_ok-is_new.ensures.keys)
