use Rattle.loop_find.proofs.QuickUnifiers.{next_resolved}
use Rattle.loop_find.proofs.writing.next_term.Goals as goal

pub returns-clause-some : goal.returns-clause-some
returns-clause-some c = next_resolved c.args.found.now c.args.steps c.args.v c.bound_term.result c.bound_term.ensures
