use Rattle.std.proofs.Common.{map, sym, subst}
use Rattle.tree_state.specs.Parts.{Parts}
use Rattle.tree_state.specs.Seen.{entry_of}
use Rattle.tree_state.specs.Ascending.{AreAscending}
use Rattle.tree_state.proofs.Steps.{own_ascending}
use Rattle.tree_state.proofs.board.Board.walk.Goals as goal

pub walk-requires-clause-ascending : goal.walk-requires-clause-ascending
walk-requires-clause-ascending c =
    let asc = subst (λ (p : Parts). AreAscending p.state.nodes) (sym c.self.view_is) c.requires.ascending in
    rw c.deref.ensures.value (own_ascending (map entry_of c.self.inside.history.items) c.self.inside.nodes.items asc)
