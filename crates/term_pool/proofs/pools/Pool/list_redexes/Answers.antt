use Rattle.term_pool.specs.Pooled.{tree_at}
use Rattle.term_pool.proofs.RedexLists.{grown_whole, redexes_listed}
use Rattle.term_pool.proofs.pools.Pool.list_redexes.Goals as goal

pub returns-clause-redexes : goal.returns-clause-redexes
returns-clause-redexes c =
    let rules = c.args.by_root.now.rules in
    let t = tree_at c.args.self.now c.args.id in
    redexes_listed rules t c.add_redexes.new.found.items (grown_whole rules t c.new-place.result.items c.new-found.result.items c.add_redexes.new.found.items
    c.new-place.ensures.items c.new-found.ensures.items c.in_ok-add_redexes.ensures.found)
