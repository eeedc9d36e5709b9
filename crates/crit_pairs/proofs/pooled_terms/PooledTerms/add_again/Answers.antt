use Rattle.std.proofs.Common.{arith}
use Rattle.term_pool.proofs.PoolTrees.{stands_at, stands_within}
use Rattle.crit_pairs.proofs.PooledTermLaws.{pair_read, pair_there, sides_there, one_pair_more}
use Rattle.crit_pairs.proofs.pooled_terms.PooledTerms.add_again.Goals as goal

pub index-pair-requires : goal.index-pair-requires
index-pair-requires c =
    let h = c.requires.there in
    let within = pair_there h.0 h.1 c.args.self.now c.args.n h.2 h.3 h.4 in
    omega (arith, within, c.args.self.now.pairs.ok.0)

pub returns-clause-left : goal.returns-clause-left
returns-clause-left c = λ rules peaks p holds at.
    stands_at c.args.self.now.pool c.index-pair.result.now.left p.left (pair_read rules peaks c.args.self.now c.args.n p c.index-pair.result.now holds at c.index-pair.ensures).0

pub returns-clause-right : goal.returns-clause-right
returns-clause-right c = λ rules peaks p holds at.
    stands_at c.args.self.now.pool c.index-pair.result.now.right p.right (pair_read rules peaks c.args.self.now c.args.n p c.index-pair.result.now holds at c.index-pair.ensures).1

pub returns-clause-holds : goal.returns-clause-holds
returns-clause-holds c = λ rules peaks p holds left right.
    let h = c.requires.there in
    let pool = c.args.self.now.pool in
    let x = c.index-pair.result.now in
    let is = pair_read h.0 h.1 c.args.self.now c.args.n h.2 x h.3 h.4 c.index-pair.ensures in
    record {
      pairs = one_pair_more pool c.args.self.now.pairs.items c.push.new.self.items peaks x p c.in_ok-push.ensures.items holds.pairs (stands_within pool x.left h.2.left is.0)
          (stands_within pool x.right h.2.right is.1) left right;
      sides = holds.sides;
      none = λ none. absurd (sides_there h.0 h.1 c.args.self.now c.args.n h.2 h.3 h.4 none);
    }
