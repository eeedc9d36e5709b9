use Rattle.std.proofs.Common.{rules, ◌≡◌, ◌+◌, ◌<◌, ◌≤◌, ap, sym, ◌∙◌, subst, refl, arith, map, get_or, drop, length}
use Rattle.std.proofs.lemmas.List.{drop_all}
use Rattle.trs_defs.specs.Tree.{cons, nil}
use Rattle.trs_defs.specs.Size.{size_of, size_of_all}
use Rattle.trs_defs.proofs.ArgumentLists.{cell, size_of_item}
use Rattle.std.proofs.Math.ListN.{get_or-map, length-map}
use Rattle.trs_core.specs.View.{tree, forest}
use Rattle.pair_order.proofs.Opening.{application}
use Rattle.kbo_order.specs.Balances.{AreEven}
use Rattle.kbo_order.specs.Seen.{AreApart}
use Rattle.kbo_order.proofs.Sight.{apart_by_count, as_many_terms}
use Rattle.kbo_order.proofs.Walking.{Walk, begun, seen_next, measured_next, ended}
use Rattle.kbo_order.proofs.comparing.+see.Goals as goal

pub see_apart-requires-then-len : goal.see_apart-requires-then-len
see_apart-requires-then-len g t c =
    let apart : AreApart (tree c.args.s.now) (tree c.args.t.now) =
    apart_by_count c.in-App.f c.in-App-t.g c.ss.inside.items.items c.ts.inside.items.items (tree c.args.s.now) (tree c.args.t.now)
    (application c.in-App.f _ _ _ _ (ap tree c.in-App.is) c.ss.view_is refl) (application c.in-App-t.g _ _ _ _ (ap tree c.in-App-t.is) c.ts.view_is refl)
    (λ e. c.if-len.true (omega (arith, e, c.len.ensures, c.len-in-App-t.ensures, c.ss.inside.items.ok.0, c.ts.inside.items.ok.0))) in
    search rules

pub see-requires : goal.see-requires
see-requires g t c =
    let even : AreEven g.row.N c.loop-i.balances = c.loop-i.invariant.walk.even c.if-seen.true in
    let xs = c.deref-a-items.result.now in
    let i = c.loop-i.i in
    let a = c.a-item.result in
    let item = size_of_item (map tree xs) i (tree a) (omega (arith, length-map xs tree, c.loop-i-test.true)) in
    let is : get_or (map tree xs) i (tree a) ≡ tree a = get_or-map tree xs i a ∙ ap tree {x = get_or xs i a} (sym {b = get_or xs i a} c.a-item.is) in
    let sizes : size_of (tree c.args.s.now) ≡ 1 + size_of_all (forest xs) =
    ap size_of {x = tree c.args.s.now} (application c.in-App.f _ _ _ _ (ap tree c.in-App.is) c.ss.view_is c.deref-a-items.ensures.value) in
    let smaller : size_of (tree a) < size_of (tree c.args.s.now) = omega (arith, sizes, ap size_of is, item) in
    search rules

pub loop-i-init : goal.loop-i-init
loop-i-init g t c =
    let xs = c.deref-a-items.result.now in
    let ys = c.ts.inside.items.items in
    let same : length c.deref-a-items.result.now ≡ length c.ts.inside.items.items =
    omega (arith, ap length c.deref-a-items.ensures.value, c.if-len.false, c.len.ensures, c.len-in-App-t.ensures, c.ss.inside.items.ok.0, c.ts.inside.items.ok.0) in
    record {
      same_length = same;
      walk = begun (g.W.Weighting.weights c.args.order.now) (g.W.Weighting.ranks c.args.order.now) g.row.N c.args.from (forest xs) (forest ys) c.args.balances.now
          (as_many_terms xs ys same) c.requires.even;
    }

pub loop-i-preserved-then-seen : goal.loop-i-preserved-then-seen
loop-i-preserved-then-seen g t c =
    let w = g.W.Weighting.weights c.args.order.now in
    let r = g.W.Weighting.ranks c.args.order.now in
    let xs = c.deref-a-items.result.now in
    let ys = c.ts.inside.items.items in
    let i = c.loop-i.i in
    let h = c.loop-i.invariant in
    let inside : i < length ys = omega (arith, h.same_length, c.loop-i-test.true) in
    let first = cell xs i c.a-item.result c.loop-i-test.true c.a-item.is in
    let second = cell ys i c.index-b.result.now inside c.index-b.ensures in
    let before = subst (λ us. Walk w r g.row.N c.args.from (forest xs) (forest ys) (forest us) (cons (tree c.index-b.result.now) (forest (drop (i + 1) ys))) c.loop-i.seen c.loop-i.balances) first
    (subst (λ vs. Walk w r g.row.N c.args.from (forest xs) (forest ys) (forest (drop i xs)) (forest vs) c.loop-i.seen c.loop-i.balances) second h.walk) in
    record {
      same_length = h.same_length;
      walk = seen_next w r g.row.N c.args.from c.requires.some (forest xs) (forest ys) (tree c.a-item.result) (tree c.index-b.result.now) (forest (drop (i + 1) xs)) (forest (drop (i + 1) ys)) c.loop-i.seen c.loop-i.balances before
          c.see.new.balances c.in_ok-next-in-App-t.next c.in_ok-sums-in-App-t.sums c.if-seen.true c.in_ok-next-in-App-t.ensures c.in_ok-sums-in-App-t.ensures;
    }

pub loop-i-preserved : goal.loop-i-preserved
loop-i-preserved g t c =
    let w = g.W.Weighting.weights c.args.order.now in
    let r = g.W.Weighting.ranks c.args.order.now in
    let xs = c.deref-a-items.result.now in
    let ys = c.ts.inside.items.items in
    let i = c.loop-i.i in
    let h = c.loop-i.invariant in
    let inside : i < length ys = omega (arith, h.same_length, c.loop-i-test.true) in
    let first = cell xs i c.a-item.result c.loop-i-test.true c.a-item.is in
    let second = cell ys i c.index-b.result.now inside c.index-b.ensures in
    let before = subst (λ us. Walk w r g.row.N c.args.from (forest xs) (forest ys) (forest us) (cons (tree c.index-b.result.now) (forest (drop (i + 1) ys))) c.loop-i.seen c.loop-i.balances) first
    (subst (λ vs. Walk w r g.row.N c.args.from (forest xs) (forest ys) (forest (drop i xs)) (forest vs) c.loop-i.seen c.loop-i.balances) second h.walk) in
    record {
      same_length = h.same_length;
      walk = measured_next w r g.row.N c.args.from c.requires.some (forest xs) (forest ys) (tree c.a-item.result) (tree c.index-b.result.now) (forest (drop (i + 1) xs)) (forest (drop (i + 1) ys)) c.loop-i.seen c.loop-i.balances before
          c.measure_both.new.balances c.in_ok-more-in-App-t.more c.in_ok-sums-in-App-t-2.sums c.if-seen.false c.in_ok-more-in-App-t.ensures.weights
          c.in_ok-more-in-App-t.ensures.counted c.in_ok-sums-in-App-t-2.ensures;
    }

pub returns-in_ok-weights-in-App-t : goal.returns-in_ok-weights-in-App-t
returns-in_ok-weights-in-App-t g t c =
    let w = g.W.Weighting.weights c.args.order.now in
    let r = g.W.Weighting.ranks c.args.order.now in
    let xs = c.deref-a-items.result.now in
    let ys = c.ts.inside.items.items in
    let i = c.loop-i.i in
    let h = c.loop-i.invariant in
    let past : length ys ≤ i = omega (arith, h.same_length, c.loop-i-test.false) in
    let walk = subst (λ us. Walk w r g.row.N c.args.from (forest xs) (forest ys) (forest us) nil c.loop-i.seen c.loop-i.balances) (drop_all i xs c.loop-i-test.false)
    (subst (λ vs. Walk w r g.row.N c.args.from (forest xs) (forest ys) (forest (drop i xs)) (forest vs) c.loop-i.seen c.loop-i.balances) (drop_all i ys past) h.walk) in
    ended w r g.row.N c.args.from c.requires.some c.in-App.f c.in-App-t.g (forest xs) (forest ys) (tree c.args.s.now) (tree c.args.t.now) c.loop-i.seen c.loop-i.balances
    (application c.in-App.f _ _ _ _ (ap tree c.in-App.is) c.ss.view_is c.deref-a-items.ensures.value) (application c.in-App-t.g _ _ _ _ (ap tree c.in-App-t.is) c.ts.view_is refl)
    c.if-f-g.false walk c.weight-root.result c.weight-root.ensures
    c.in_ok-weights-in-App-t.weights c.are_above-greater.result c.in_ok-weights-in-App-t.ensures c.are_above-greater.ensures
