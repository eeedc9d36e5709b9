use Rattle.std.proofs.Common.{sym, ◌∙◌}
use Rattle.rewrite_core.specs.Check.{never, least}
use Rattle.dp_core.proofs.LeastLacking.{none_lacks, least_that_lacks}
use Rattle.dp_core.proofs.entries.entries_check.Goals as goal

pub returns-in-Some : goal.returns-in-Some
returns-in-Some c = λ has symbols e. let h = least_that_lacks has symbols c.in-Some.f (sym c.in-Some.is ∙ e) in least c.in-Some.f h.0 h.1

pub returns-in-None : goal.returns-in-None
returns-in-None c = λ has symbols e. never (none_lacks has symbols (sym c.in-None.is ∙ e))
