use Rattle.poly_find.proofs.PolyPuzzle.{slot_count}
use Rattle.poly_find.proofs.space.PolySpaceSpace.slots.Goals as goal

pub returns : goal.returns
returns c = let x = c.args.self.now in slot_count x.arities.now x.symbols.now x.rules.now x.pairs.now x.owners.now x.owners_are
