use Rattle.order_find.proofs.subterm_space.SubtermSpaceSpace.holds.Goals as goal

pub is_met-requires-clause-known : goal.is_met-requires-clause-known
is_met-requires-clause-known c = c.new.ensures c.args.self.now.pairs.now
