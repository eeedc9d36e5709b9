use Rattle.pair_theory.proofs.Problems.{no_pairs_end, more_pairs_end}
use Rattle.pair_theory.proofs.fewer_pairs_suffice.Goals as goal

pub returns-clause-none : goal.returns-clause-none
returns-clause-none c = no_pairs_end

pub returns-clause-fewer : goal.returns-clause-fewer
returns-clause-fewer c = more_pairs_end
