use Rattle.std.proofs.Common.{◌==◌, ap, ◌∙◌}
use Rattle.dp_graph.proofs.NodeLists.{item_found, item_missing}
use Rattle.dp_graph.proofs.WordRowLaws.{emptiness, no_row}
use Rattle.dp_graph.proofs.word_rows.WordRows.is_empty.Goals as goal

pub returns-in-Some : goal.returns-in-Some
returns-in-Some c = λ flags has.
    emptiness c.args.self.now.rows.items c.args.n c.in-Some.row.now flags c.is_empty.result
    (item_found c.args.self.now.rows.items c.args.n c.get.result c.in-Some.row (rw c.deref.ensures.value at c.get.ensures.lookup) c.in-Some.is) has (c.is_empty.ensures ∙ ap (λ n. n == 0) c.in-Some.row.now.ok.0)

pub returns-in-None : goal.returns-in-None
returns-in-None c = λ flags has.
    absurd (no_row c.args.self.now.rows.items c.args.n flags (item_missing c.args.self.now.rows.items c.args.n c.get.result (rw c.deref.ensures.value at c.get.ensures.lookup) c.in-None.is) has)
