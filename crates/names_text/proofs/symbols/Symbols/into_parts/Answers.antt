use Rattle.std.proofs.Common.{sym}
use Rattle.names_text.proofs.SymbolPairs.{names_paired, arities_paired}
use Rattle.names_text.proofs.symbols.Symbols.into_parts.Goals as goal

pub returns-clause-names : goal.returns-clause-names
returns-clause-names c = rw (← c.self.view_is) (sym (names_paired c.self.inside.names c.self.inside.arities.items c.self.invariant))

pub returns-clause-arities : goal.returns-clause-arities
returns-clause-arities c = rw (← c.self.view_is) (sym (arities_paired c.self.inside.names c.self.inside.arities.items c.self.invariant))
