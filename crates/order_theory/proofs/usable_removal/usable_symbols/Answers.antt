use Rattle.order_theory.proofs.UsableProblems.{exact_has_usable, usable_within}
use Rattle.order_theory.proofs.usable_removal.usable_symbols.Goals as goal

pub returns-clause-exact : goal.returns-clause-exact
returns-clause-exact c = exact_has_usable

pub returns-clause-least : goal.returns-clause-least
returns-clause-least c = usable_within
