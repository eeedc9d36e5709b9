use Rattle.std.proofs.Common.{◌≡◌, ◌+◌, ◌∷◌, drop, length, refl, ap, sym, subst}
use Rattle.std.proofs.lemmas.List.{drop_all}
use Rattle.std.proofs.lemmas.Option.{slice_get_read}
use Rattle.trs_core.specs.View.{tree, forest}
use Rattle.dp_core.specs.Symbols.{symbols_of, symbols_of_all}
use Rattle.dp_core.proofs.Collecting.{next_item}
use Rattle.order_search.specs.SymbolSets.{Adds}
use Rattle.order_search.proofs.Growing.{LeftOf, more_added, all_added, all_left}
use Rattle.order_search.proofs.below_roots.add_arguments.Goals as goal

pub loop-arg-init : goal.loop-arg-init
loop-arg-init c = all_left c.args.set.now.items (symbols_of_all (forest c.deref-arg-items.result.now))

pub loop-arg-preserved : goal.loop-arg-preserved
loop-arg-preserved c =
    let items = c.deref-arg-items.result.now in
    let i = c.loop-arg.arg-index in
    let arg = c.arg-item.result in
    let opened : drop i items ≡ arg ∷ drop (i + 1) items = next_item items i arg (slice_get_read items (length items) i arg refl c.loop-arg-test.true c.arg-item.is) in
    more_added c.args.set.now.items c.loop-arg.set.items c.add_symbols.new.set.items (symbols_of_all (forest items)) (symbols_of (tree arg)) (symbols_of_all (forest (drop (i + 1) items)))
    (subst (λ ts. LeftOf c.args.set.now.items c.loop-arg.set.items (symbols_of_all (forest items)) (symbols_of_all (forest ts))) opened c.loop-arg.invariant)
    c.in_ok-add_symbols.ensures

pub returns : goal.returns
returns c =
    let items = c.deref-arg-items.result.now in
    let i = c.loop-arg.arg-index in
    let is : c.args.side.now.args ≡ forest items = rw (← c.side.view_is, ← c.args-2.view_is, c.deref-arg-items.ensures.value) refl in
    subst (λ ts. Adds c.args.set.now.items c.loop-arg.set.items (symbols_of_all ts)) (sym is)
    (all_added c.args.set.now.items c.loop-arg.set.items (symbols_of_all (forest items)) (symbols_of_all (forest (drop i items)))
    (ap (λ ts. symbols_of_all (forest ts)) (drop_all i items c.loop-arg-test.false)) c.loop-arg.invariant)
