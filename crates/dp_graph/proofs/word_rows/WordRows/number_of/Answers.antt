use Rattle.dp_graph.proofs.WordRowLaws.{row_there, rows_stay}
use Rattle.dp_graph.proofs.word_rows.WordRows.number_of.Goals as goal

pub returns-clause-there : goal.returns-clause-there
returns-clause-there c = row_there c.args.self.now.rows.items c.add.new.self.rows.items c.args.row c.add.result c.add.ensures

pub returns-clause-kept : goal.returns-clause-kept
returns-clause-kept c = rows_stay c.args.self.now.rows.items c.add.new.self.rows.items c.args.row c.add.result c.add.ensures

pub returns-in-Some-clause-there : goal.returns-in-Some-clause-there
returns-in-Some-clause-there c = rw c.deref.ensures.value at c.in-Some.ensures
