use Rattle.std.proofs.Common.{◌≡◌, ◌+◌, ◌∷◌, ◌++◌, drop, ap, subst}
use Rattle.std.proofs.lemmas.List.{drop_all}
use Rattle.trs_defs.proofs.ArgumentLists.{cell}
use Rattle.dp_core.specs.Symbols.{symbols_of_all, symbols_below_roots}
use Rattle.order_search.proofs.Growing.{LeftOf, more_added, all_added, all_left}
use Rattle.order_search.proofs.below_roots.add_below_roots.Goals as goal

pub loop-pair-init : goal.loop-pair-init
loop-pair-init c = all_left c.args.set.now.items (symbols_below_roots c.args.pairs.now)

pub loop-pair-preserved : goal.loop-pair-preserved
loop-pair-preserved c =
    let pairs = c.args.pairs.now in
    let i = c.loop-pair.pair-index in
    let pair = c.pair-item.result in
    let opened : drop i pairs ≡ pair ∷ drop (i + 1) pairs = cell pairs i pair c.loop-pair-test.true c.pair-item.is in
    more_added c.args.set.now.items c.loop-pair.set.items c.add_pair.new.set.items (symbols_below_roots pairs) (symbols_of_all pair.from.args ++ symbols_of_all pair.to.args) (symbols_below_roots (drop (i + 1) pairs))
    (subst (λ l. LeftOf c.args.set.now.items c.loop-pair.set.items (symbols_below_roots pairs) (symbols_below_roots l)) opened c.loop-pair.invariant)
    c.in_ok-add_pair.ensures

pub returns : goal.returns
returns c =
    all_added c.args.set.now.items c.loop-pair.set.items (symbols_below_roots c.args.pairs.now) (symbols_below_roots (drop c.loop-pair.pair-index c.args.pairs.now))
    (ap (λ l. symbols_below_roots l) (drop_all c.loop-pair.pair-index c.args.pairs.now c.loop-pair-test.false)) c.loop-pair.invariant
