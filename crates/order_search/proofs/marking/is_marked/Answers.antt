use Rattle.std.proofs.Common.{◌≡◌, ℕ, ◌+◌, ap, sym, ◌∙◌}
use Rattle.trs_defs.specs.Tree.{app, trees}
use Rattle.trs_core.specs.View.{tree}
use Rattle.order_search.proofs.MarkedSides.{is_marked, same_args}
use Rattle.order_search.proofs.marking.is_marked.Goals as goal

pub returns-then-f-side : goal.returns-then-f-side
returns-then-f-side c =
    let args = c.in-App.args in
    let others = c.side.inside.args.now in
    let symbol = c.side.inside.symbol in
    let term : tree c.args.t.now ≡ app (symbol + 4096) (trees args) = ap tree c.in-App.is ∙ ap (λ (n : ℕ). app n (trees args)) c.if-f-side.true in (
      λ same. term ∙ is_marked symbol args others c.args.side.now c.side.view_is (c.same_args.ensures.0 same),
      λ equal. c.same_args.ensures.1 (same_args symbol args others c.args.side.now c.side.view_is (sym term ∙ equal)),
    )
