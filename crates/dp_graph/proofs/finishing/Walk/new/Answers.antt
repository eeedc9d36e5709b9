use Rattle.dp_graph.proofs.finishing.Walk.new.Goals as goal

pub returns : goal.returns
returns c = record {
  entered = c.in_ok-entered.ensures.items_if_clones_equal (λ y e. e);
  next = c.in_ok-next.ensures.items_if_clones_equal (λ y e. e);
  way = c.new.ensures.items;
  finished = c.new-2.ensures.items;
}
