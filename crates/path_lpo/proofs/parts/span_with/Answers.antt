use Rattle.std.proofs.Common.{◌≡◌, Some, slice_get, ap, ◌∙◌}
use Rattle.path_lpo.specs.declared.nodes.Node.TheVariants.{App}
use Rattle.path_lpo.proofs.Spans.{read_item, alone_at_most, joined_at_most}
use Rattle.path_lpo.proofs.parts.span_with.Goals as goal

pub returns-in-Some : goal.returns-in-Some
returns-in-Some c =
    let there : slice_get c.args.nodes.now c.args.n ≡ Some (App c.in-Some-App.field-0-0 c.in-Some-App.field-0-1) =
    read_item c.args.nodes.now c.args.n c.get.result c.in-Some-App.field-0 c.get.ensures.lookup c.in-Some-App.is ∙ ap (λ n. Some n) c.in-Some-App.field-0-is in
    let span = read_item c.args.spans.now c.args.n c.get-in-Some-App.result c.in-Some.span c.get-in-Some-App.ensures.lookup c.in-Some.is in
    joined_at_most c.args.nodes.now c.args.n c.in-Some.span.now c.alone.result c.joined.result
    (c.requires c.args.n (App c.in-Some-App.field-0-0 c.in-Some-App.field-0-1) c.in-Some.span.now there span) c.alone.ensures c.joined.ensures

pub returns-in-None : goal.returns-in-None
returns-in-None c = alone_at_most c.args.nodes.now c.args.n c.alone-in-None.result c.alone-in-None.ensures

pub returns-in_default : goal.returns-in_default
returns-in_default c = alone_at_most c.args.nodes.now c.args.n c.alone-in_default.result c.alone-in_default.ensures
