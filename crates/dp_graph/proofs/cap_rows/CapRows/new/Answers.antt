use Rattle.std.proofs.Common.{ap, ◌∷◌, ◌++◌, [], ◌∙◌}
use Rattle.dp_graph.proofs.CapRowLaws.{hole_alone}
use Rattle.dp_graph.proofs.cap_rows.CapRows.new.Goals as goal

pub returns : goal.returns
returns c = λ rules lefts noted.
    hole_alone rules lefts _ 0 c.new.result noted (c.in_ok-push.ensures.items ∙ ap (λ z. z ++ 0 ∷ []) c.new-caps.ensures.items) (c.in_ok-add.ensures.rows ∙ ap (λ z. z ++ c.new.result ∷ []) c.new-keys.ensures) c.new.ensures.items c.new-3.ensures.empty
