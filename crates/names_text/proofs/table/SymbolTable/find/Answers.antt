use Rattle.std.proofs.Common.{◌≡◌, ◌∙◌, None, sym, ap, option_map, rules}
use Rattle.names_text.specs.Names.{number_among}
use Rattle.names_text.proofs.SymbolPairs.{symbol_by_number, symbol_at}
use Rattle.names_text.proofs.table.SymbolTable.find.Goals as goal

pub returns-in_err-number : goal.returns-in_err-number
returns-in_err-number c =
    let names = c.self.inside.names.now in
    let as' = c.self.inside.arities.now in
    let none : c.from_residual.result ≡ None = search rules in
    let no_number : number_among names c.args.name.now ≡ None = search rules in
    rw (← c.self.view_is) (none ∙ sym (symbol_by_number names as' c.args.name.now c.self.invariant ∙ ap (option_map (symbol_at as')) no_number))

pub returns : goal.returns
returns c =
    let as' = c.self.inside.arities.now in
    rw (← c.self.view_is) (ap (option_map (symbol_at as')) c.in_ok-number.ensures.number ∙ sym (symbol_by_number c.self.inside.names.now as' c.args.name.now c.self.invariant))
