use Rattle.std.proofs.Common.{sym, ◌∙◌}
use Rattle.dp_graph.proofs.ListPlaces.{lists_length}
use Rattle.dp_graph.proofs.waiting.Waiting.new.Goals as goal

pub ready-requires : goal.ready-requires
ready-requires c = rw c.deref.ensures.value (sym (lists_length c.in_ok-blockers.blockers.items) ∙ c.in_ok-blockers.ensures.count)

pub returns : goal.returns
returns c = record {
  blockers = c.in_ok-blockers.ensures;
  out = c.in_ok-out.ensures.items_if_clones_equal (λ y e. e);
  ready = rw c.deref.ensures.value at c.in_ok-ready.ensures;
}
