use Rattle.std.proofs.Common.{sym}
use Rattle.order_search.proofs.TwoParts.{many_slots}
use Rattle.lpo_find.proofs.space.LpoSpaceSpace.slots.Goals as goal

pub returns : goal.returns
returns c = sym (many_slots c.args.self.now.symbols.now)
