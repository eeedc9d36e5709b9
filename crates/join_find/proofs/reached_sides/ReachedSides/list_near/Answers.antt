use Rattle.std.proofs.Common.{List, sym, subst}
use Rattle.trs_defs.specs.Tree.{Tree}
use Rattle.term_pool.specs.Crossing.{AreKnownIds}
use Rattle.join_find.proofs.KeptOfSides.{one_more_near, then_ok, always_ok}
use Rattle.join_find.proofs.reached_sides.ReachedSides.list_near.Goals as goal

pub returns-clause-sides : goal.returns-clause-sides
returns-clause-sides c =
    then_ok c.put.result
    (λ put. one_more_near c.args.by_root.now.rules c.args.self.now c.requires.sides c.near.new.pool c.args.self.now.known_ids c.near.new.known c.put.new.self c.args.id c.in_ok-list.list.items
    c.in_ok-list.ensures.same put c.in_ok-list.ensures.near c.in_ok-list.ensures.known)
    c.put.ensures

pub returns-clause-ids : goal.returns-clause-ids
returns-clause-ids c = λ terms ids.
    let K : List Tree → Type 0 = λ pool. AreKnownIds terms pool c.args.self.now.known_ids in
    always_ok c.put.result (subst K (sym c.in_ok-list.ensures.same) ids)
