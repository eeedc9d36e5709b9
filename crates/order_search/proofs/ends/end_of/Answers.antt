use Rattle.std.proofs.Common.{arith, sym}
use Rattle.order_search.proofs.PlacedEntries.{stands_at}
use Rattle.order_search.proofs.LastPlaces.{end_of_place, no_end}
use Rattle.order_search.proofs.ends.end_of.Goals as goal

pub overflow_add-result : goal.overflow_add-result
overflow_add-result c =
    let at = stands_at c.args.places.now c.args.f c.in-Some.place (sym c.in-Some.ensures) in
    let within = at.within in
    omega (arith, within, c.requires.few)

pub returns-in-Some : goal.returns-in-Some
returns-in-Some c = sym (end_of_place c.args.places.now c.args.f c.in-Some.place c.requires.distinct (sym c.in-Some.ensures))

pub returns-in-None : goal.returns-in-None
returns-in-None c = sym (no_end c.args.places.now c.args.f (sym c.in-None.ensures))
