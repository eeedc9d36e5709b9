use Rattle.dp_graph.proofs.NodeLists.{item_found}
use Rattle.dp_graph.proofs.word_rows.WordRows.has_words.Goals as goal

pub returns-in-Some : goal.returns-in-Some
returns-in-Some c = λ e. (
  c.in-Some.row.now,
  item_found c.args.self.now.rows.items c.args.n c.get.result c.in-Some.row (rw c.deref.ensures.value at c.get.ensures.lookup) c.in-Some.is,
  rw c.deref-in-Some.ensures.value at (c.are_equal.ensures e),
)
