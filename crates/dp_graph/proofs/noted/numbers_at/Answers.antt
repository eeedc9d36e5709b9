use Rattle.std.proofs.Common.{ap, ◌∙◌}
use Rattle.term_pool.specs.Roots.{with_root}
use Rattle.dp_graph.specs.NotedRules.{listed_or}
use Rattle.dp_graph.proofs.noted.numbers_at.Goals as goal

pub returns-in-Some : goal.returns-in-Some
returns-in-Some c = rw c.deref.ensures.value (ap (listed_or (with_root c.args.f c.args.by_root.now.rules)) c.in-Some.ensures.value)

pub returns-in-None : goal.returns-in-None
returns-in-None c = c.with_root.ensures.numbers ∙ ap (listed_or (with_root c.args.f c.args.by_root.now.rules)) c.in-None.ensures.value
