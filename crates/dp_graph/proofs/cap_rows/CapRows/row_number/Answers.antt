use Rattle.dp_graph.proofs.NodeLists.{item_found, item_missing}
use Rattle.dp_graph.proofs.CapRowLaws.{read_number, no_number}
use Rattle.dp_graph.proofs.cap_rows.CapRows.row_number.Goals as goal

pub returns-in-Some : goal.returns-in-Some
returns-in-Some c = λ r at.
    read_number c.args.self.now.caps.items c.args.n c.in-Some.row.now r (item_found c.args.self.now.caps.items c.args.n c.get.result c.in-Some.row (rw c.deref.ensures.value at c.get.ensures.lookup) c.in-Some.is) at

pub returns-in-None : goal.returns-in-None
returns-in-None c = λ r at.
    absurd (no_number c.args.self.now.caps.items c.args.n r (item_missing c.args.self.now.caps.items c.args.n c.get.result (rw c.deref.ensures.value at c.get.ensures.lookup) c.in-None.is) at)
