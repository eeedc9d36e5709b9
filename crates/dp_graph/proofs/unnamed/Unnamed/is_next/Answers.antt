use Rattle.std.proofs.Common.{refl}
use Rattle.dp_graph.proofs.NodeLists.{item_found}
use Rattle.dp_graph.proofs.UnnamedPairs.{number_read}
use Rattle.dp_graph.proofs.unnamed.Unnamed.is_next.Goals as goal

pub returns-in-Some : goal.returns-in-Some
returns-in-Some c =
    number_read c.args.self.now.numbers.items c.args.self.now.next c.in-Some.next.now c.args.n _
    (item_found c.args.self.now.numbers.items c.args.self.now.next c.get.result c.in-Some.next (rw c.deref.ensures.value at c.get.ensures.lookup) c.in-Some.is) refl
