use Rattle.dp_graph.proofs.UnnamedPairs.{place_found, none_found}
use Rattle.dp_graph.proofs.unnamed.Unnamed.place.Goals as goal

pub returns-then-is_next-clause-there : goal.returns-then-is_next-clause-there
returns-then-is_next-clause-there c = c.is_next.ensures c.if-is_next.true

pub returns-clause-there : goal.returns-clause-there
returns-clause-there c =
    rw c.ok.ensures.value (place_found c.args.self.now.numbers.items c.args.n c.binary_search.result (rw c.deref.ensures.value at c.binary_search.ensures.bound) (rw c.deref.ensures.value at c.binary_search.ensures.ok))

pub returns-clause-none : goal.returns-clause-none
returns-clause-none c =
    rw c.ok.ensures.value (none_found c.args.self.now.numbers.items c.args.n c.binary_search.result (rw c.deref.ensures.value at c.binary_search.ensures.position))
