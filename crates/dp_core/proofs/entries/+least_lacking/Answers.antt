use Rattle.std.proofs.Common.{◌≡◌, ◌+◌, ◌∷◌, drop, length, refl, subst}
use Rattle.std.proofs.lemmas.Option.{slice_get_read}
use Rattle.trs_core.specs.View.{tree, forest}
use Rattle.dp_core.specs.Symbols.{symbols_of, symbols_of_all}
use Rattle.dp_core.specs.LeastLacking.{least_lacking}
use Rattle.dp_core.proofs.LeastLacking.{argument_asked}
use Rattle.dp_core.proofs.entries.+least_lacking.Goals as goal
use Rattle.trs_defs.proofs.ListItems.{next_item}

pub loop-arg-preserved : goal.loop-arg-preserved
loop-arg-preserved g t c =
    let items = c.deref-arg-items.result.now in
    let i = c.loop-arg.arg-index in
    let arg = c.arg-item.result in
    let has = g.O.ReductionPair.has c.args.order.now in
    let opened : drop i items ≡ arg ∷ drop (i + 1) items = next_item items i arg (slice_get_read items (length items) i arg refl c.loop-arg-test.true c.arg-item.is) in
    argument_asked has (tree arg) (forest (drop (i + 1) items)) c.loop-arg.found c.least_lacking-found.result _ c.least_lacking-found.ensures
    (subst (λ ts. least_lacking has c.loop-arg.found (symbols_of_all (forest ts)) ≡ least_lacking has c.args.least (symbols_of (tree c.args.t.now))) opened c.loop-arg.invariant)
