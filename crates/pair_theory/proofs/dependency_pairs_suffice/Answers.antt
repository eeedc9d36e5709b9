use Rattle.pair_theory.proofs.PairList.{listed_are_pairs}
use Rattle.pair_theory.proofs.Problems.{listed_theorem}
use Rattle.pair_theory.proofs.dependency_pairs_suffice.Goals as goal

pub returns-clause-terminating : goal.returns-clause-terminating
returns-clause-terminating c = listed_theorem

pub returns-clause-pairs : goal.returns-clause-pairs
returns-clause-pairs c = listed_are_pairs
