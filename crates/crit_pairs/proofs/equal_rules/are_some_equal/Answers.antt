use Rattle.crit_pairs.proofs.EqualRules.{no_numbers}
use Rattle.crit_pairs.proofs.equal_rules.are_some_equal.Goals as goal

pub add-requires-clause-equal : goal.add-requires-clause-equal
add-requires-clause-equal c = no_numbers c.args.rules.now _ c.new-equal.ensures
