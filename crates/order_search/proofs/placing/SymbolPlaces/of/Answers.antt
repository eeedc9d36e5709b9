use Rattle.std.proofs.Common.{get_or, refl}
use Rattle.order_search.proofs.PlacingSymbols.{one_noted}
use Rattle.order_search.proofs.placing.SymbolPlaces.of.Goals as goal

pub loop-i-preserved : goal.loop-i-preserved
loop-i-preserved c =
    one_noted c.args.symbols.now c.loop-i.i c.loop-i.places.items c.note.new.places.items c.loop-i-test.true c.loop-i.invariant
    (get_or c.args.symbols.now c.loop-i.i 0) refl c.note.ensures.there c.note.ensures.noted
