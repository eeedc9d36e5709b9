use Rattle.std.proofs.Common.{map, arith}
use Rattle.std.proofs.lemmas.List.{length-map}
use Rattle.tree_state.specs.Seen.{entry_of, node_of}
use Rattle.tree_state.proofs.Finding.{match_option}
use Rattle.tree_state.proofs.board.Board.find.Goals as goal

pub returns-clause-found : goal.returns-clause-found
returns-clause-found c =
    let h = map entry_of c.self.inside.history.items in
    let found = rw (c.deref.ensures.value, c.deref-2.ensures.value) at c.first_free-n.ensures.found in
    rw (← c.self.view_is) (match_option c.first_free-n.result.1 (λ n. omega (arith, n, length-map c.self.inside.nodes.items (node_of h))) (λ place f. f h) found)
