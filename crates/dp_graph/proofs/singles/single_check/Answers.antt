use Rattle.rewrite_core.specs.Check.{returned, stops, goes_on, present, absent}
use Rattle.dp_graph.proofs.Sets.{true_is_not_false}
use Rattle.dp_graph.proofs.singles.single_check.Goals as goal

pub returns-then-leads : goal.returns-then-leads
returns-then-leads c = rw c.in-Single.is (stops _ (present (c.leads.ensures.0 c.if-leads.true)))

pub returns-in-Group : goal.returns-in-Group
returns-in-Group c = rw c.in-Group.is returned

pub returns-else-leads : goal.returns-else-leads
returns-else-leads c =
    rw c.in-Single.is (goes_on _ _ (absent (λ e. true_is_not_false c.leads.result (c.leads.ensures.1 e) c.if-leads.false)) returned)
