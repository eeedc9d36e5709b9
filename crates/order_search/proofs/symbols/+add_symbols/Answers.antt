use Rattle.std.proofs.Common.{◌≡◌, ◌+◌, ◌∷◌, drop, length, refl, ap, sym, subst}
use Rattle.std.proofs.lemmas.List.{drop_all}
use Rattle.std.proofs.lemmas.Option.{slice_get_read}
use Rattle.trs_defs.specs.Tree.{Tree, app}
use Rattle.trs_core.specs.View.{tree, forest}
use Rattle.dp_core.specs.Symbols.{symbols_of, symbols_of_all}
use Rattle.dp_core.proofs.Collecting.{next_item}
use Rattle.order_search.proofs.Growing.{LeftOf, root_added, more_added, all_added}
use Rattle.order_search.proofs.symbols.+add_symbols.Goals as goal

pub loop-arg-init : goal.loop-arg-init
loop-arg-init t c =
    let is : tree c.args.t.now ≡ app c.in-App.f (forest c.deref-arg-items.result.now) = rw (c.in-App.is, ← c.args-in-App.view_is, c.deref-arg-items.ensures.value) refl in
    subst (λ (u : Tree). LeftOf c.args.set.now.items c.add.new.set.items (symbols_of u) (symbols_of_all (forest c.deref-arg-items.result.now))) (sym is)
    (root_added c.args.set.now.items c.add.new.set.items c.in-App.f (symbols_of_all (forest c.deref-arg-items.result.now)) c.in_ok-add-in-App.ensures)

pub loop-arg-preserved : goal.loop-arg-preserved
loop-arg-preserved t c =
    let items = c.deref-arg-items.result.now in
    let i = c.loop-arg.arg-index in
    let arg = c.arg-item.result in
    let opened : drop i items ≡ arg ∷ drop (i + 1) items = next_item items i arg (slice_get_read items (length items) i arg refl c.loop-arg-test.true c.arg-item.is) in
    more_added c.args.set.now.items c.loop-arg.set.items c.add_symbols.new.set.items (symbols_of (tree c.args.t.now)) (symbols_of (tree arg)) (symbols_of_all (forest (drop (i + 1) items)))
    (subst (λ ts. LeftOf c.args.set.now.items c.loop-arg.set.items (symbols_of (tree c.args.t.now)) (symbols_of_all (forest ts))) opened c.loop-arg.invariant)
    c.in_ok-add_symbols-in-App.ensures

pub returns-after-loop-arg : goal.returns-after-loop-arg
returns-after-loop-arg t c =
    let items = c.deref-arg-items.result.now in
    let i = c.loop-arg.arg-index in
    all_added c.args.set.now.items c.loop-arg.set.items (symbols_of (tree c.args.t.now)) (symbols_of_all (forest (drop i items)))
    (ap (λ ts. symbols_of_all (forest ts)) (drop_all i items c.loop-arg-test.false)) c.loop-arg.invariant
