use Rattle.std.proofs.Common.{◌≡◌, Some, slice_get, ap, sym, ◌∙◌, subst, refl, arith}
use Rattle.path_lpo.specs.declared.nodes.Node.TheVariants.{Cons}
use Rattle.path_lpo.specs.declared.parts.Span.{Span}
use Rattle.path_lpo.specs.Parts.{BelongTo, AreReached}
use Rattle.path_lpo.proofs.Spans.{arguments_below, list_reached, list_with_itself, list_alone}
use Rattle.path_lpo.proofs.parts.span_of.Goals as goal

pub returns-in-App : goal.returns-in-App
returns-in-App c =
    let ns = c.args.nodes.now in
    subst (λ x. BelongTo ns c.args.n x c.span_of_list.result) (sym c.in-App.is)
    (arguments_below ns c.requires.earlier c.args.n c.in-App.field-0 c.in-App.args c.span_of_list.result (c.requires.node ∙ ap (λ x. Some x) c.in-App.is) c.span_of_list.ensures)

pub returns-then-all-n : goal.returns-then-all-n
returns-then-all-n c =
    let ns = c.args.nodes.now in
    let there : slice_get ns c.args.n ≡ Some (Cons c.in-Cons.first c.in-Cons.rest) = c.requires.node ∙ ap (λ x. Some x) c.in-Cons.is in
    let span : Span = record { from = c.joined-all.result.from; to = c.saturating_add.result } in
    let all : AreReached ns c.args.n c.joined-all.result =
    list_reached ns c.requires.earlier c.args.n c.in-Cons.first c.in-Cons.rest c.span_with.result c.span_of_list-in-Cons.result c.joined-all.result there c.span_with.ensures c.span_of_list-in-Cons.ensures c.joined-all.ensures in
    subst (λ x. BelongTo ns c.args.n x span) (sym c.in-Cons.is)
    (list_with_itself ns c.requires.earlier c.args.n c.in-Cons.first c.in-Cons.rest c.joined-all.result span there all c.if-all-n.true refl (omega (arith, c.saturating_add.ensures)))

pub returns-else-all-n : goal.returns-else-all-n
returns-else-all-n c =
    let ns = c.args.nodes.now in
    let there : slice_get ns c.args.n ≡ Some (Cons c.in-Cons.first c.in-Cons.rest) = c.requires.node ∙ ap (λ x. Some x) c.in-Cons.is in
    subst (λ x. BelongTo ns c.args.n x c.alone.result) (sym c.in-Cons.is)
    (list_alone ns c.requires.earlier c.args.n c.in-Cons.first c.in-Cons.rest c.alone.result there c.alone.ensures)
