use Rattle.order_find.proofs.Places.{as_many_values, small_values}
use Rattle.order_find.proofs.Findings.{reads_places}
use Rattle.order_find.proofs.subterm.SubtermSpaceReadable.read.Goals as goal

pub places_of-requires-clause-each : goal.places_of-requires-clause-each
places_of-requires-clause-each c =
    as_many_values c.args.self.now.arities.now c.args.self.now.roots.now c.args.values.now c.args.self.now.pairs.now c.requires

pub places_of-requires-clause-small : goal.places_of-requires-clause-small
places_of-requires-clause-small c =
    small_values c.args.self.now.arities.now c.args.self.now.roots.now c.args.values.now c.args.self.now.pairs.now c.requires c.args.self.now.bytes

pub returns : goal.returns
returns c =
    reads_places c.args.self.now.arities.now c.args.self.now.roots.now c.args.values.now c.args.self.now.pairs.now c.places_of.result c.places_of.ensures
