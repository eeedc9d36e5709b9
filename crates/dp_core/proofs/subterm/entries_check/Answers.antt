use Rattle.rewrite_core.specs.Check.{never, least}
use Rattle.dp_core.proofs.subterm.entries_check.Goals as goal

pub returns-in-Some : goal.returns-in-Some
returns-in-Some c = λ taken are. let h = c.in-Some.ensures taken are in least c.in-Some.f h.0 h.1

pub returns-in-None : goal.returns-in-None
returns-in-None c = λ taken are. never (c.in-None.ensures taken are)
