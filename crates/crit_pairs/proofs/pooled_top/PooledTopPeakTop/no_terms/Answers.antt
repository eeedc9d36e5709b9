use Rattle.crit_pairs.proofs.pooled_top.PooledTopPeakTop.no_terms.Goals as goal

pub returns : goal.returns
returns c = c.new.ensures c.args._rules.now.rules
