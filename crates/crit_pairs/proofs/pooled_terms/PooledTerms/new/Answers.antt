use Rattle.std.proofs.Common.{[], refl, sym, subst}
use Rattle.crit_pairs.specs.Table.{ArePairs, no_pair}
use Rattle.crit_pairs.proofs.pooled_terms.PooledTerms.new.Goals as goal

pub returns : goal.returns
returns c = λ rules. record { pairs = subst (λ xs. ArePairs c.new.result xs []) (sym c.new-2.ensures.items) no_pair; sides = tt; none = λ _. refl }
