use Rattle.term_pool.proofs.pools.Pool.reach_by_root.Goals as goal

pub reach_knowing-requires-clause-known : goal.reach_knowing-requires-clause-known
reach_knowing-requires-clause-known c = c.new-known.ensures c.args.by_root.now.rules c.args.self.now
