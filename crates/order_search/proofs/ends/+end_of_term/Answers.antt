use Rattle.std.proofs.Common.{◌≡◌, ◌+◌, ◌∷◌, max, drop, length, refl, sym, subst}
use Rattle.std.proofs.lemmas.List.{drop_all}
use Rattle.std.proofs.lemmas.Option.{slice_get_read}
use Rattle.trs_defs.specs.Tree.{Tree, app, var}
use Rattle.trs_core.specs.View.{tree, forest}
use Rattle.dp_core.proofs.Collecting.{next_item}
use Rattle.order_search.specs.Ends.{end_among}
use Rattle.order_search.specs.OrderSpace.{occurs_in, occurs_in_some}
use Rattle.order_search.proofs.LastPlaces.{end_of_none, root_end, next_end, last_end}
use Rattle.order_search.proofs.ends.+end_of_term.Goals as goal

pub loop-arg-init : goal.loop-arg-init
loop-arg-init t c =
    let items = c.deref-arg-items.result.now in
    let is : tree c.args.t.now ≡ app c.in-App.f (forest items) = rw (c.in-App.is, ← c.args-in-App.view_is, c.deref-arg-items.ensures.value) refl in
    subst (λ (u : Tree). max c.end_of-end.result (end_among (λ g. occurs_in_some g (forest items)) c.args.places.now) ≡ end_among (λ g. occurs_in g u) c.args.places.now) (sym is)
    (root_end c.in-App.f (forest items) c.args.places.now c.end_of-end.result c.end_of-end.ensures)

pub loop-arg-preserved : goal.loop-arg-preserved
loop-arg-preserved t c =
    let items = c.deref-arg-items.result.now in
    let i = c.loop-arg.arg-index in
    let arg = c.arg-item.result in
    let opened : drop i items ≡ arg ∷ drop (i + 1) items = next_item items i arg (slice_get_read items (length items) i arg refl c.loop-arg-test.true c.arg-item.is) in
    next_end (tree arg) (forest (drop (i + 1) items)) c.args.places.now c.loop-arg.end c.end_of_term.result c.later-end.result (end_among (λ g. occurs_in g (tree c.args.t.now)) c.args.places.now)
    (subst (λ ts. max c.loop-arg.end (end_among (λ g. occurs_in_some g (forest ts)) c.args.places.now) ≡ end_among (λ g. occurs_in g (tree c.args.t.now)) c.args.places.now)
    opened c.loop-arg.invariant)
    c.end_of_term.ensures c.later-end.ensures

pub returns-in-Var : goal.returns-in-Var
returns-in-Var t c =
    let is : tree c.args.t.now ≡ var c.in-Var.field-0 = rw (c.in-Var.is) refl in
    subst (λ (u : Tree). 0 ≡ end_among (λ g. occurs_in g u) c.args.places.now) (sym is) (sym (end_of_none c.args.places.now))

pub returns-after-loop-arg : goal.returns-after-loop-arg
returns-after-loop-arg t c =
    let items = c.deref-arg-items.result.now in
    let i = c.loop-arg.arg-index in
    last_end c.args.places.now c.loop-arg.end (end_among (λ g. occurs_in g (tree c.args.t.now)) c.args.places.now)
    (subst (λ ts. max c.loop-arg.end (end_among (λ g. occurs_in_some g (forest ts)) c.args.places.now) ≡ end_among (λ g. occurs_in g (tree c.args.t.now)) c.args.places.now)
    (drop_all i items c.loop-arg-test.false) c.loop-arg.invariant)
