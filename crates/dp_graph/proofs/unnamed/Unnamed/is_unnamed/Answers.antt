use Rattle.dp_graph.proofs.NodeLists.{item_found, item_missing}
use Rattle.dp_graph.proofs.UnnamedPairs.{unset_read, unset_missing}
use Rattle.dp_graph.proofs.unnamed.Unnamed.is_unnamed.Goals as goal

pub returns-in-Some : goal.returns-in-Some
returns-in-Some c = unset_read c.args.self.now.named.items c.args.place c.in-Some.named.now (item_found c.args.self.now.named.items c.args.place c.get.result c.in-Some.named (rw c.deref.ensures.value at c.get.ensures.lookup) c.in-Some.is)

pub returns-in-None : goal.returns-in-None
returns-in-None c = unset_missing c.args.self.now.named.items c.args.place (item_missing c.args.self.now.named.items c.args.place c.get.result (rw c.deref.ensures.value at c.get.ensures.lookup) c.in-None.is)
