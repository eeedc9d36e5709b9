use Rattle.std.proofs.Common.{arith}
use Rattle.term_pool.proofs.PoolTrees.{stands_at, stands_within}
use Rattle.crit_pairs.proofs.PooledRuleLaws.{right_read}
use Rattle.crit_pairs.proofs.PooledTermLaws.{pair_read, pair_there, sides_there, sides_read, one_pair_more}
use Rattle.crit_pairs.proofs.pooled_terms.PooledTerms.add_beside.Goals as goal

pub index-requires-2 : goal.index-requires-2
index-requires-2 c =
    let h = c.requires.there in
    let within = pair_there h.0 h.1 c.args.self.now c.args.n h.3 h.4 h.7 in
    omega (arith, within, c.args.self.now.pairs.ok.0)

pub returns-clause-left : goal.returns-clause-left
returns-clause-left c = λ rules peaks r holds numbered ground.
    stands_at c.args.self.now.pool c.index.result.now.id r.right
    (right_read rules c.args.self.now.pool c.in-Some.sides c.args.rule r (sides_read rules peaks c.args.self.now c.in-Some.sides holds c.in-Some.is) numbered c.index.result.now c.index.ensures).stands

pub returns-clause-right : goal.returns-clause-right
returns-clause-right c = λ rules peaks p holds at.
    stands_at c.args.self.now.pool c.index-2.result.now.right p.right (pair_read rules peaks c.args.self.now c.args.n p c.index-2.result.now holds at c.index-2.ensures).1

pub returns-clause-holds : goal.returns-clause-holds
returns-clause-holds c = λ rules peaks p holds left right.
    let h = c.requires.there in
    let pool = c.args.self.now.pool in
    let side = right_read h.0 pool c.in-Some.sides c.args.rule h.2 (sides_read h.0 h.1 c.args.self.now c.in-Some.sides h.4 c.in-Some.is) h.5 c.index.result.now c.index.ensures in
    let is = pair_read h.0 h.1 c.args.self.now c.args.n h.3 c.index-2.result.now h.4 h.7 c.index-2.ensures in
    record {
      pairs = one_pair_more pool c.args.self.now.pairs.items c.push.new.self.items peaks _ p c.in_ok-push.ensures.items holds.pairs (stands_within pool c.index.result.now.id h.2.right side.stands)
          (stands_within pool c.index-2.result.now.right h.3.right is.1) left right;
      sides = holds.sides;
      none = λ none. absurd (sides_there h.0 h.1 c.args.self.now c.args.n h.3 h.4 h.7 none);
    }
