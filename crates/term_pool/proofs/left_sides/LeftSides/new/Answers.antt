use Rattle.term_pool.proofs.LeftSideLaws.{no_sides}
use Rattle.term_pool.proofs.left_sides.LeftSides.new.Goals as goal

pub returns : goal.returns
returns c = λ rules pool. no_sides rules pool _ c.new.ensures.items c.new-2.ensures.items
