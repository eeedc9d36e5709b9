use Rattle.std.proofs.Common.{◌<◌, map, length, sym, subst}
use Rattle.std.proofs.lemmas.List.{length-map}
use Rattle.tree_state.specs.Parts.{Parts}
use Rattle.tree_state.specs.Seen.{entry_of}
use Rattle.tree_state.specs.contracts.board.Board.{the_view}
use Rattle.tree_state.proofs.board.Board.set_decision.Goals as goal

pub invariant_of-self : goal.invariant_of-self
invariant_of-self c =
    let lt : c.args.decision.entry < length c.self.inside.history.items =
    rw (← length-map c.self.inside.history.items entry_of) (subst (λ (p : Parts). c.args.decision.entry < length p.history) (sym c.self.view_is) c.requires.entry) in
    c.decide_node.ensures.within (length c.self.inside.history.items) c.self.invariant lt

pub returns : goal.returns
returns c = rw (← c.self.view_is) (λ node there.
    let nodes = c.decide_node.ensures.nodes (map entry_of c.self.inside.history.items) node there in
    λ i. record (the_view c.self.inside) { state = record (the_view c.self.inside).state { nodes = nodes i }; node_room = c.decide_node.ensures.room i })
