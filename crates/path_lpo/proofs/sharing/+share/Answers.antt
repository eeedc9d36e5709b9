use Rattle.std.proofs.Common.{◌≡◌, ◌+◌, ◌-◌, ◌<◌, ap, sym, subst, ◌∙◌, arith, refl, map, length, Some, None, IfOk, slice_get, get_or}
use Rattle.std.specs.Option.{option_map, option_copied}
use Rattle.trs_defs.specs.Size.{size_of}
use Rattle.trs_core.specs.View.{tree}
use Rattle.order_theory.specs.ArgumentFilter.{filtered, filtered_all}
use Rattle.path_lpo.specs.Kept.{kept_of}
use Rattle.path_lpo.specs.Graph.{StandsFor, term, list, reading_over, readings}
use Rattle.path_lpo.specs.declared.nodes.Node.TheVariants.{App}
use Rattle.path_lpo.proofs.Keeping.{size_of_found}
use Rattle.path_lpo.proofs.Listing.{listed_from, same_listed, one_listed}
use Rattle.path_lpo.proofs.Readings.{stands_within, cons_stands, app_stands}
use Rattle.path_lpo.proofs.sharing.+share.Goals as goal

pub loop-k-preserved-in_default : goal.loop-k-preserved-in_default
loop-k-preserved-in_default g t c =
    let places = c.in-Symbol.kept.places.now in
    let ts = map tree c.in-Symbol.kept.args.now in
    let none : slice_get ts (get_or places (c.loop-k.k - 1) 0 - 1) ≡ None = sym c.argument.ensures ∙ ap (λ o. option_map tree (option_copied o)) c.in_default.is in
    let within : c.loop-k.k - 1 < length places = omega (arith, c.loop-k.invariant.within, c.loop-k-test.true) in
    let next : c.loop-k.k - 1 + 1 ≡ c.loop-k.k = omega (arith, c.loop-k-test.true) in
    record {
      within = omega (arith, within);
      stands = c.loop-k.invariant.stands
          ∙ ap (λ us. Some (list us)) (sym (same_listed (g.P.Precedence.filters c.args.order.now) places ts (c.loop-k.k - 1) c.loop-k.k (get_or places (c.loop-k.k - 1) 0) within next refl none));
      kept = c.loop-k.invariant.kept;
    }

pub share-requires : goal.share-requires
share-requires g t c κs within =
    let ts = map tree c.in-Symbol.kept.args.now in
    let place = get_or c.in-Symbol.kept.places.now (c.loop-k.k - 1) 0 in
    let there : slice_get ts (place - 1) ≡ Some (tree c.in-Some.arg.now) = sym c.argument.ensures ∙ ap (λ o. option_map tree (option_copied o)) c.in-Some.is in
    let smaller : size_of (tree c.in-Some.arg.now) < size_of (tree c.args.t.now) = omega (arith, size_of_found (place - 1) ts (tree c.in-Some.arg.now) there, c.in-Symbol.ensures.size) in
    (omega (arith, smaller, c.decreases), within)

pub number-requires-in-loop-k : goal.number-requires-in-loop-k
number-requires-in-loop-k g t c =
    let ns = c.share.new.graph.nodes.items in
    omega (
      arith,
      stands_within ns c.in_ok-first-in-Symbol.first _ c.in_ok-first-in-Symbol.ensures.stands,
      stands_within ns c.loop-k.list _ (c.share.ensures.kept c.loop-k.list _ c.loop-k.invariant.stands),
    )

pub loop-k-preserved : goal.loop-k-preserved
loop-k-preserved g t c =
    let filter = g.P.Precedence.filters c.args.order.now in
    let places = c.in-Symbol.kept.places.now in
    let ts = map tree c.in-Symbol.kept.args.now in
    let arg = tree c.in-Some.arg.now in
    let k = c.loop-k.k - 1 in
    let there : slice_get ts (get_or places (c.loop-k.k - 1) 0 - 1) ≡ Some (tree c.in-Some.arg.now) = sym c.argument.ensures ∙ ap (λ o. option_map tree (option_copied o)) c.in-Some.is in
    let within : c.loop-k.k - 1 < length places = omega (arith, c.loop-k.invariant.within, c.loop-k-test.true) in
    let next : c.loop-k.k - 1 + 1 ≡ c.loop-k.k = omega (arith, c.loop-k-test.true) in
    let rest = c.share.ensures.kept c.loop-k.list _ c.loop-k.invariant.stands in
    record {
      within = omega (arith, within);
      stands = c.in_ok-list-in-Symbol-2.ensures.stands
          ∙ ap (λ r. Some r) (cons_stands c.share.new.graph.nodes.items c.in_ok-first-in-Symbol.first c.loop-k.list (filtered filter arg) (listed_from filter places ts c.loop-k.k) c.in_ok-first-in-Symbol.ensures.stands rest
          ∙ ap list (sym (one_listed filter places ts (c.loop-k.k - 1) c.loop-k.k (get_or places (c.loop-k.k - 1) 0) within next refl arg there)));
      kept = λ n r h. c.in_ok-list-in-Symbol-2.ensures.kept n r (c.share.ensures.kept n r (c.loop-k.invariant.kept n r h));
    }

pub number-requires-in-Symbol-2 : goal.number-requires-in-Symbol-2
number-requires-in-Symbol-2 g t c = omega (arith, stands_within c.loop-k.graph.nodes.items c.loop-k.list _ c.loop-k.invariant.stands)

pub returns-after-loop-k-clause-stands : goal.returns-after-loop-k-clause-stands
returns-after-loop-k-clause-stands g t c =
    let filter = g.P.Precedence.filters c.args.order.now in
    let places = c.in-Symbol.kept.places.now in
    let ts = map tree c.in-Symbol.kept.args.now in
    let ns = c.loop-k.graph.nodes.items in
    let none : c.loop-k.k ≡ 0 = omega (arith, c.loop-k-test.false) in
    let all : StandsFor c.loop-k.graph.nodes.items c.loop-k.list (list (filtered_all filter (kept_of c.in-Symbol.kept))) = c.loop-k.invariant.stands ∙ ap (λ k. Some (list (listed_from filter places ts k))) none in
    let whole : reading_over (readings c.loop-k.graph.nodes.items) (App c.in-Symbol.f c.loop-k.list) ≡ term (filtered filter (tree c.args.t.now)) = app_stands ns c.in-Symbol.f c.loop-k.list (filtered_all filter (kept_of c.in-Symbol.kept)) all ∙ ap term c.in-Symbol.ensures.whole in
    subst (λ r. IfOk c.number-in-Symbol-2.result (λ n. StandsFor c.number-in-Symbol-2.new.self.nodes.items n r)) whole c.number-in-Symbol-2.ensures.stands
