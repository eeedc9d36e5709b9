use Rattle.std.proofs.Common.{◌∙◌}
use Rattle.term_pool.proofs.PoolPlaces.{copied_item}
use Rattle.term_pool.proofs.left_sides.LeftSides.id.Goals as goal

pub returns : goal.returns
returns c = rw (← c.deref.ensures.value) (c.copied.ensures ∙ copied_item c.deref.result.now c.args.k c.get.result c.get.ensures.lookup)
