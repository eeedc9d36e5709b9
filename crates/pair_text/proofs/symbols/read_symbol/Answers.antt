use Rattle.std.proofs.Common.{sym, ap, ◌∙◌}
use Rattle.names_text.specs.Named.{table_of}
use Rattle.names_text.specs.Symbols.{symbol_named}
use Rattle.pair_text.proofs.SymbolLaws.{small_symbol}
use Rattle.pair_text.proofs.symbols.read_symbol.Goals as goal

pub returns-in-Some-clause-small : goal.returns-in-Some-clause-small
returns-in-Some-clause-small c =
    small_symbol c.args.system.now c.symbols.ensures.named c.deref.result.now c.in-Some.symbol (ap (λ t. symbol_named t c.deref.result.now) (sym c.table.ensures) ∙ sym c.find.ensures ∙ c.in-Some.is)
