use Rattle.lpo_find.proofs.Places.{one_place_more, all_places}
use Rattle.lpo_find.proofs.filters.places_but.Goals as goal

pub loop-i-preserved : goal.loop-i-preserved
loop-i-preserved c = one_place_more c.args.left_out c.args.arity c.loop-i.i c.loop-i.places.items c.add_unless.new.places.items c.loop-i-test.true c.loop-i.invariant c.in_ok-add_unless.ensures

pub returns : goal.returns
returns c = all_places c.args.left_out c.args.arity c.loop-i.i c.loop-i.places.items c.loop-i-test.false c.loop-i.invariant
