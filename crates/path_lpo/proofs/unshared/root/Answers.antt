use Rattle.std.proofs.Common.{◌<◌, map, ap, sym, ◌∙◌, arith, refl}
use Rattle.std.specs.Option.{option_map, option_copied}
use Rattle.trs_defs.specs.Size.{size_of}
use Rattle.trs_core.specs.View.{tree}
use Rattle.pair_order.proofs.Opening.{application}
use Rattle.path_lpo.specs.Lent.{lent_filter}
use Rattle.path_lpo.proofs.Parting.{whole_kept, whole_missing, whole_there, smaller}
use Rattle.path_lpo.proofs.unshared.root.Goals as goal

pub returns-in-Keep-clause-whole : goal.returns-in-Keep-clause-whole
returns-in-Keep-clause-whole g c =
    whole_kept (g.P.Precedence.filters c.args.order.now) (tree c.loop-current.current.now) (tree c.args.t.now) c.in-App.f (map tree c.args-in-App.inside.items.items)
    (application c.in-App.f _ _ _ _ (ap tree c.in-App.is) c.args-in-App.view_is refl) c.loop-current.invariant.same
    c.in-Keep.places.now c.in-Keep.places.now (map tree c.deref.result.now)
    (sym c.filter.ensures ∙ ap lent_filter c.in-Keep.is) refl (ap (map tree) c.deref.ensures.value)

pub returns-in-None-clause-whole : goal.returns-in-None-clause-whole
returns-in-None-clause-whole g c =
    whole_missing (g.P.Precedence.filters c.args.order.now) (tree c.loop-current.current.now) (tree c.args.t.now) c.in-App.f (map tree c.deref-in-To.result.now)
    (application c.in-App.f _ _ _ _ (ap tree c.in-App.is) c.args-in-App.view_is c.deref-in-To.ensures.value) c.loop-current.invariant.same
    c.in-To.place (sym c.filter.ensures ∙ ap lent_filter c.in-To.is)
    (sym c.argument.ensures ∙ ap (λ o. option_map tree (option_copied o)) c.in-None.is)

pub loop-current-smaller : goal.loop-current-smaller
loop-current-smaller g c =
    let less : size_of (tree c.in-Some.next.now) < size_of (tree c.loop-current.current.now) =
    smaller (tree c.loop-current.current.now) c.in-App.f (map tree c.deref-in-To.result.now) _ (tree c.in-Some.next.now)
    (application c.in-App.f _ _ _ _ (ap tree c.in-App.is) c.args-in-App.view_is c.deref-in-To.ensures.value)
    (sym c.argument.ensures ∙ ap (λ o. option_map tree (option_copied o)) c.in-Some.is) in less

pub loop-current-preserved : goal.loop-current-preserved
loop-current-preserved g c =
    let less : size_of (tree c.in-Some.next.now) < size_of (tree c.loop-current.current.now) =
    smaller (tree c.loop-current.current.now) c.in-App.f (map tree c.deref-in-To.result.now) _ (tree c.in-Some.next.now)
    (application c.in-App.f _ _ _ _ (ap tree c.in-App.is) c.args-in-App.view_is c.deref-in-To.ensures.value)
    (sym c.argument.ensures ∙ ap (λ o. option_map tree (option_copied o)) c.in-Some.is) in
    record {
      same =
          whole_there (g.P.Precedence.filters c.args.order.now) (tree c.loop-current.current.now) (tree c.args.t.now) c.in-App.f (map tree c.deref-in-To.result.now)
          (application c.in-App.f _ _ _ _ (ap tree c.in-App.is) c.args-in-App.view_is c.deref-in-To.ensures.value) c.loop-current.invariant.same
          c.in-To.place (tree c.in-Some.next.now)
          (sym c.filter.ensures ∙ ap lent_filter c.in-To.is)
          (sym c.argument.ensures ∙ ap (λ o. option_map tree (option_copied o)) c.in-Some.is);
      size = omega (arith, less, c.loop-current.invariant.size);
    }
