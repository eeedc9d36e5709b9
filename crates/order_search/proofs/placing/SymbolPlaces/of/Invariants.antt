use Rattle.order_search.proofs.PlacingSymbols.{ArePlacedSoFar}
use Rattle.order_search.proofs.placing.SymbolPlaces.of.Given as goal

abbrev pub invariant-loop-i : goal.invariant-loop-i
invariant-loop-i l = ArePlacedSoFar l.symbols l.i l.places.items
