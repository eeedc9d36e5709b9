use Rattle.std.proofs.Common.{Some, refl, ap, ◌∙◌}
use Rattle.dp_graph.proofs.NodeLists.{item_found}
use Rattle.dp_graph.proofs.CapRowLaws.{noted_if}
use Rattle.dp_graph.proofs.noted.is_noted.Goals as goal

pub returns-in-Some-Some : goal.returns-in-Some-Some
returns-in-Some-Some c = noted_if c.args.lefts.now c.args.k c.in-Some-Some.first _ (item_found c.args.lefts.now c.args.k c.get.result _ c.get.ensures.lookup c.in-Some-Some.is ∙ ap (λ z. Some z) c.in-Some-Some.field-0-is) refl
