use Rattle.std.proofs.Common.{◌≡◌, slice_get, Some, ap, sym, ◌∙◌, subst}
use Rattle.std.specs.Slice.{IsItemAt}
use Rattle.std.specs.Option.{option_copied}
use Rattle.pair_order.proofs.Placing.{place_found, copied_item}
use Rattle.pair_order.proofs.symbol_index.SymbolIndex.hinted.Goals as goal

pub returns-then-there-symbol : goal.returns-then-there-symbol
returns-then-there-symbol c =
    let keys = c.self.inside.symbols.keys in
    let place = c.in_ok-hint.field-0.now in
    let item : IsItemAt keys place c.get-2.result = subst (λ ks. IsItemAt ks place c.get-2.result) c.as_slice.ensures.keys c.get-2.ensures.lookup in
    let there : slice_get keys place ≡ Some c.args.symbol = sym (copied_item keys place c.get-2.result item) ∙ (ap option_copied c.in_ok-there.was ∙ ap Some c.if-there-symbol.true) in
    rw (← c.self.view_is) (sym (place_found c.args.symbol keys place c.as_slice.ensures.unique there))
