use Rattle.completion.proofs.PairLaws.{bases_on, first_still}
use Rattle.completion.proofs.closing.look_at_few.Goals as goal

pub look_on-requires-clause-table : goal.look_on-requires-clause-table
look_on-requires-clause-table c = first_still c.args.system.now.rules _ _ c.args.table (bases_on c.args.met.now c.look_at_first.new.met c.in_ok-found.ensures.kept) c.requires.table

pub returns-in-Some-clause-table : goal.returns-in-Some-clause-table
returns-in-Some-clause-table c = first_still c.args.system.now.rules _ _ c.args.table (bases_on c.args.met.now c.look_at_first.new.met c.in_ok-found.ensures.kept) c.requires.table
