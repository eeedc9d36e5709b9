use Rattle.std.proofs.Common.{sym}
use Rattle.std.proofs.lemmas.Option.{none-some}
use Rattle.term_pool.proofs.Extending.{extends_on}
use Rattle.crit_pairs.specs.Overlapping.{substitution}
use Rattle.crit_pairs.proofs.PooledResultLaws.{instances_at}
use Rattle.crit_pairs.proofs.PooledTermLaws.{one_pair_more}
use Rattle.crit_pairs.proofs.TableLaws.{pairs_still}
use Rattle.crit_pairs.proofs.pooled_terms.PooledTerms.add_peak.Goals as goal

pub returns-clause-limits : goal.returns-clause-limits
returns-clause-limits c = λ u replaced.
    c.in_ok-added.ensures.limits _ _ _
    (instances_at c.args.rules.now.rules c.args.j c.args.i c.args.place.now (substitution c.args.unifier.now) c.args.outer.now c.args.inner.now c.requires.outer c.requires.inner u replaced)

pub returns-clause-holds : goal.returns-clause-holds
returns-clause-holds c = λ peaks p holds left right.
    let results = c.in_ok-added.ensures.results in
    let kept = extends_on c.args.self.now.pool c.sides_in_pool.new.pool c.make_results.new.pool c.in_ok-sides.ensures.kept c.in_ok-added.ensures.kept in
    record {
      pairs = one_pair_more c.make_results.new.pool c.args.self.now.pairs.items c.push.new.self.items peaks c.in_ok-added.added.pair p c.in_ok-push.ensures.items
          (pairs_still kept holds.pairs) results.left_there results.right_there left right;
      sides = c.in_ok-added.ensures.pooled;
      none = λ e. absurd (none-some _ (sym e));
    }
