use Rattle.names_text.proofs.SymbolPairs.{number_missing, paired_last}
use Rattle.names_text.proofs.symbols.Symbols.add.Goals as goal

pub add-requires : goal.add-requires
add-requires c = number_missing c.self.inside.names c.self.inside.arities.items c.args.name.items c.self.invariant (rw (← c.self.view_is) at c.requires)

pub returns-clause-ok : goal.returns-clause-ok
returns-clause-ok c =
    rw (← c.self.view_is, c.in-Ok.ensures.ok, c.in_ok-push.ensures.items)
    (paired_last c.self.inside.names c.self.inside.arities.items c.args.name.items c.args.arity c.self.invariant)
