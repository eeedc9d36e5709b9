use Rattle.std.proofs.Common.{◌≡◌, Some, slice_get, ap, ◌∙◌}
use Rattle.path_lpo.specs.declared.nodes.Node.TheVariants.{Cons}
use Rattle.path_lpo.proofs.Spans.{read_item}
use Rattle.path_lpo.proofs.parts.span_of_list.Goals as goal

pub returns-in-Some : goal.returns-in-Some
returns-in-Some c =
    let there : slice_get c.args.nodes.now c.args.list ≡ Some (Cons c.in-Some-Cons.field-0-0 c.in-Some-Cons.field-0-1) =
    read_item c.args.nodes.now c.args.list c.get.result c.in-Some-Cons.field-0 c.get.ensures.lookup c.in-Some-Cons.is ∙ ap (λ n. Some n) c.in-Some-Cons.field-0-is in
    let span = read_item c.args.spans.now c.args.list c.get-in-Some-Cons.result c.in-Some.span c.get-in-Some-Cons.ensures.lookup c.in-Some.is in
    c.requires c.args.list (Cons c.in-Some-Cons.field-0-0 c.in-Some-Cons.field-0-1) c.in-Some.span.now there span
