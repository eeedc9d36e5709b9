use Rattle.std.proofs.Common.{◌/◌}
use Rattle.dp_graph.proofs.NodeLists.{item_found, item_missing}
use Rattle.dp_graph.proofs.FlagLaws.{bit_read, no_word}
use Rattle.dp_graph.proofs.flag_rows.is_set.Goals as goal

pub returns-in-Some : goal.returns-in-Some
returns-in-Some c = bit_read c.args.row.now c.args.k c.in-Some.word.now (item_found c.args.row.now (c.args.k / 64) c.get.result c.in-Some.word c.get.ensures.lookup c.in-Some.is)

pub returns-in-None : goal.returns-in-None
returns-in-None c = no_word c.args.row.now c.args.k (item_missing c.args.row.now (c.args.k / 64) c.get.result c.get.ensures.lookup c.in-None.is)
