use Rattle.order_theory.proofs.KnuthPair.{knuth_pair, knuth_speaks}
use Rattle.order_theory.proofs.knuth_bendix_laws.Goals as goal

pub returns-clause-pair : goal.returns-clause-pair
returns-clause-pair c = knuth_pair

pub returns-clause-speaks : goal.returns-clause-speaks
returns-clause-speaks c = knuth_speaks
