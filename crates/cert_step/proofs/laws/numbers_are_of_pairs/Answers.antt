use Rattle.cert_step.proofs.PairNumbers.{problems_have_pairs, pairs_are_one}
use Rattle.cert_step.proofs.laws.numbers_are_of_pairs.Goals as goal

pub returns-clause-there : goal.returns-clause-there
returns-clause-there c = problems_have_pairs

pub returns-clause-one : goal.returns-clause-one
returns-clause-one c = pairs_are_one
