use Rattle.crit_pairs.proofs.EqualRules.{no_numbers}
use Rattle.crit_pairs.proofs.apart.equal_of_many.Goals as goal

pub add-requires-clause-equal : goal.add-requires-clause-equal
add-requires-clause-equal c = no_numbers _ _ c.new-equal.ensures
