use Rattle.term_pool.proofs.pools.Pool.redexes_at.Goals as goal

pub list_redexes-requires-clause-known : goal.list_redexes-requires-clause-known
list_redexes-requires-clause-known c = c.new-known.ensures c.args.by_root.now.rules c.args.self.now
