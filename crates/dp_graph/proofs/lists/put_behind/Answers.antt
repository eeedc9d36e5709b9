use Rattle.std.proofs.Common.{◌++◌, ◌∷◌, [], ap, ◌∙◌}
use Rattle.dp_graph.proofs.ReversedLaws.{put_at}
use Rattle.dp_graph.proofs.lists.put_behind.Goals as goal

pub returns : goal.returns
returns c = put_at c.args.lists.now.items c.args.k c.args.place c.index_mut-list.result.now c.push.new.self c.requires c.index_mut-list.ensures.value
    (c.in_ok-push.ensures.items ∙ ap (λ z. c.index_mut-list.result.now.items ++ z ∷ []) c.in_ok-place.ensures)
