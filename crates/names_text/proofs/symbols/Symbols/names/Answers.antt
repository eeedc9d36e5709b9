use Rattle.std.proofs.Common.{sym}
use Rattle.names_text.proofs.SymbolPairs.{names_paired}
use Rattle.names_text.proofs.symbols.Symbols.names.Goals as goal

pub returns : goal.returns
returns c = rw (← c.self.view_is) (sym (names_paired c.self.inside.names c.self.inside.arities.items c.self.invariant))
