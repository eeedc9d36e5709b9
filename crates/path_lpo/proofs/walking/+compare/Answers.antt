use Rattle.std.proofs.Common.{◌<◌, ◌≤◌, ◌∙◌, ap, refl, arith, IsTrue}
use Rattle.order_theory.specs.PathOrder.{GreaterThanAll, SomeAtLeast}
use Rattle.path_lpo.specs.Walked.{HaveOneRoot}
use Rattle.path_lpo.proofs.Walks.{variable_second, greater_rank, other_root, other_count, left_all, all_same, pair_same, pair_greater, pair_neither, greater_test, all_end, all_next, all_stop, some_end, some_found, some_passed, again_greater}
use Rattle.trs_defs.specs.Tree.{app}
use Rattle.path_lpo.proofs.walking.+compare.Goals as goal

pub compare_roots-returns-in_ok-reaches-in-Variable-root-2-clause-comparison : goal.compare_roots-returns-in_ok-reaches-in-Variable-root-2-clause-comparison
compare_roots-returns-in_ok-reaches-in-Variable-root-2-clause-comparison g t c =
    let r = g.T.Terms.ranks c.args.terms.now in
    let w = g.T.Terms.walked c.args.terms.now in
    variable_second r c.in-Symbol.f (w.trees c.in-Symbol.ss) (w.tree c.args.s) (w.tree c.args.t) c.in-Symbol.ensures.whole c.in_ok-reaches-in-Variable-root-2.reaches c.greater_if.result c.greater_if.ensures c.in-Variable-root-2.field-0 c.in-Variable-root-2.ensures.whole c.in_ok-reaches-in-Variable-root-2.ensures.reaches

pub compare_roots-returns-then-rank-clause-comparison : goal.compare_roots-returns-then-rank-clause-comparison
compare_roots-returns-then-rank-clause-comparison g t c =
    let r = g.T.Terms.ranks c.args.terms.now in
    let w = g.T.Terms.walked c.args.terms.now in
    let less : r c.in-Symbol-root-2.g < r c.in-Symbol.f = omega (arith, c.rank.ensures, c.rank-then-f-g.ensures, c.if-rank.true) in
    greater_rank r c.in-Symbol.f (w.trees c.in-Symbol.ss) (w.tree c.args.s) (w.tree c.args.t) c.in-Symbol.ensures.whole c.in_ok-exceeds-in-Symbol-root-2.exceeds c.greater_if-then-rank.result c.greater_if-then-rank.ensures c.in-Symbol-root-2.g (w.trees c.in-Symbol-root-2.ts) c.in-Symbol-root-2.ensures.whole less c.in_ok-exceeds-in-Symbol-root-2.ensures.exceeds

pub compare_roots-returns-then-f-g-clause-comparison : goal.compare_roots-returns-then-f-g-clause-comparison
compare_roots-returns-then-f-g-clause-comparison g t c =
    let r = g.T.Terms.ranks c.args.terms.now in
    let w = g.T.Terms.walked c.args.terms.now in
    let le : r c.in-Symbol.f ≤ r c.in-Symbol-root-2.g = omega (arith, c.rank.ensures, c.rank-then-f-g.ensures, c.if-rank.false) in
    other_root r c.in-Symbol.f (w.trees c.in-Symbol.ss) (w.tree c.args.s) (w.tree c.args.t) c.in-Symbol.ensures.whole c.in_ok-reaches-in-Symbol-root-2.reaches c.greater_if-then-f-g.result c.greater_if-then-f-g.ensures c.in-Symbol-root-2.g (w.trees c.in-Symbol-root-2.ts) c.in-Symbol-root-2.ensures.whole le c.if-f-g.true c.in_ok-reaches-in-Symbol-root-2.ensures.reaches

pub compare_roots-returns-then-not-are_as_many-clause-comparison : goal.compare_roots-returns-then-not-are_as_many-clause-comparison
compare_roots-returns-then-not-are_as_many-clause-comparison g t c =
    let r = g.T.Terms.ranks c.args.terms.now in
    let w = g.T.Terms.walked c.args.terms.now in
    let le : r c.in-Symbol.f ≤ r c.in-Symbol-root-2.g = omega (arith, ap r c.if-f-g.false) in
    other_count r c.in-Symbol.f (w.trees c.in-Symbol.ss) (w.tree c.args.s) (w.tree c.args.t) c.in-Symbol.ensures.whole c.in_ok-reaches-in-Symbol-root-2-2.reaches c.greater_if-then-not-are_as_many.result c.greater_if-then-not-are_as_many.ensures c.in-Symbol-root-2.g (w.trees c.in-Symbol-root-2.ts) c.in-Symbol-root-2.ensures.whole le
    (λ n. let yes : IsTrue c.are_as_many.result = c.are_as_many.ensures.1 n in absurd (cc (yes, c.if-not-are_as_many.true)))
    c.in_ok-reaches-in-Symbol-root-2-2.ensures.reaches

pub compare_roots-compare_in_order-requires : goal.compare_roots-compare_in_order-requires
compare_roots-compare_in_order-requires g t c = λ κs within.
    let w = g.T.Terms.walked c.args.terms.now in
    let root : HaveOneRoot (g.T.Terms.walked c.args.terms.now) c.args.s c.args.t c.in-Symbol.ss c.in-Symbol-root-2.ts = record {
      symbol = c.in-Symbol.f;
      first = c.in-Symbol.ensures.whole;
      second = ap (λ h. app h (w.trees c.in-Symbol-root-2.ts)) c.if-f-g.false ∙ c.in-Symbol-root-2.ensures.whole;
      first_within = c.in-Symbol.ensures.within;
      second_within = c.in-Symbol-root-2.ensures.within;
    } in
    (omega (arith, c.decreases), (within.0, (within.1.0, (within.1.1.0, (within.1.1.1.0, (within.1.1.1.1.0, (within.1.1.1.1.1, (c.requires, (root, c.are_as_many.ensures.0 c.if-not-are_as_many.false)))))))))

pub compare_in_order-loop-a-init : goal.compare_in_order-loop-a-init
compare_in_order-loop-a-init g t c =
    let r = g.T.Terms.ranks c.args.terms.now in
    let w = g.T.Terms.walked c.args.terms.now in
    let one = c.requires.root in
    record {
      left = left_all r one.symbol one.symbol (w.trees c.args.ss) (w.trees c.args.ts) (w.tree c.args.s) (w.tree c.args.t) one.first one.second refl (omega arith) c.requires.count;
      memory = c.requires.memory;
      left_bound = one.first_within;
      right_bound = one.second_within;
    }

pub compare_in_order-loop-a-preserved : goal.compare_in_order-loop-a-preserved
compare_in_order-loop-a-preserved g t c =
    let r = g.T.Terms.ranks c.args.terms.now in
    let w = g.T.Terms.walked c.args.terms.now in
    record {
      left = pair_same r (w.tree c.args.s) (w.tree c.args.t) (w.trees c.loop-a.lefts) (w.trees c.loop-a.rights) _ _
          _ _ c.loop-a.invariant.left
          c.in-Some.ensures.list_is c.in-Some-split_first.ensures.list_is c.in_ok-compare-in-Some-split_first.field-0 c.in_ok-compare-in-Some-split_first.ensures.comparison c.in-Same.is;
      memory = c.compare.ensures.memory;
      left_bound = omega (arith, c.in-Some.ensures.rest_within, c.loop-a.invariant.left_bound);
      right_bound = omega (arith, c.in-Some-split_first.ensures.rest_within, c.loop-a.invariant.right_bound);
    }

pub compare_in_order-returns-in-Greater-clause-comparison : goal.compare_in_order-returns-in-Greater-clause-comparison
compare_in_order-returns-in-Greater-clause-comparison g t c =
    let r = g.T.Terms.ranks c.args.terms.now in
    let w = g.T.Terms.walked c.args.terms.now in
    pair_greater r (w.tree c.args.s) (w.tree c.args.t) (w.trees c.loop-a.lefts) (w.trees c.loop-a.rights) _ _
    _ _ c.loop-a.invariant.left
    c.in-Some.ensures.list_is c.in-Some-split_first.ensures.list_is c.in_ok-compare-in-Some-split_first.field-0 c.in_ok-compare-in-Some-split_first.ensures.comparison c.in-Greater.is c.in_ok-exceeds-in-Greater.exceeds c.in_ok-exceeds-in-Greater.ensures.exceeds c.greater_if.result c.greater_if.ensures

pub compare_in_order-returns-in-Neither-clause-comparison : goal.compare_in_order-returns-in-Neither-clause-comparison
compare_in_order-returns-in-Neither-clause-comparison g t c =
    let r = g.T.Terms.ranks c.args.terms.now in
    let w = g.T.Terms.walked c.args.terms.now in
    pair_neither r (w.tree c.args.s) (w.tree c.args.t) (w.trees c.loop-a.lefts) (w.trees c.loop-a.rights) _ _
    _ _ c.loop-a.invariant.left
    c.in-Some.ensures.list_is c.in-Some-split_first.ensures.list_is c.in_ok-compare-in-Some-split_first.field-0 c.in_ok-compare-in-Some-split_first.ensures.comparison c.in-Neither.is c.in_ok-reaches-in-Neither.reaches c.in_ok-reaches-in-Neither.ensures.reaches c.greater_if-in-Neither.result c.greater_if-in-Neither.ensures

pub compare_in_order-returns-clause-comparison : goal.compare_in_order-returns-clause-comparison
compare_in_order-returns-clause-comparison g t c =
    let r = g.T.Terms.ranks c.args.terms.now in
    let w = g.T.Terms.walked c.args.terms.now in
    all_same r (w.tree c.args.s) (w.tree c.args.t) (w.trees c.loop-a.lefts) (w.trees c.loop-a.rights) c.loop-a.invariant.left c.in_default.ensures

pub exceeds_all-returns-then-not-is_below-clause-exceeds : goal.exceeds_all-returns-then-not-is_below-clause-exceeds
exceeds_all-returns-then-not-is_below-clause-exceeds g t c =
    let r = g.T.Terms.ranks c.args.terms.now in
    let w = g.T.Terms.walked c.args.terms.now in
    all_stop r (w.tree c.args.s) (GreaterThanAll r (w.tree c.args.s) (w.trees c.args.list)) (w.trees c.loop-b.rest) c.loop-b.invariant.left _ _ c.in-Some.ensures.list_is
    (λ g. let yes : IsTrue c.in_ok-is_below.is_below = c.in_ok-is_below.ensures.exceeds.1 g in absurd (cc (yes, c.if-not-is_below.true)))

pub exceeds_all-loop-b-preserved : goal.exceeds_all-loop-b-preserved
exceeds_all-loop-b-preserved g t c =
    let r = g.T.Terms.ranks c.args.terms.now in
    let w = g.T.Terms.walked c.args.terms.now in
    let greater = c.in_ok-is_below.ensures.exceeds.0 c.if-not-is_below.false in
    record {
      left = all_next r (w.tree c.args.s) (GreaterThanAll r (w.tree c.args.s) (w.trees c.args.list)) (w.trees c.loop-b.rest) c.loop-b.invariant.left _ _ c.in-Some.ensures.list_is greater;
      last = greater;
      memory = c.exceeds.ensures.memory;
      bound = omega (arith, c.in-Some.ensures.rest_within, c.loop-b.invariant.bound);
    }

pub exceeds_all-returns-clause-exceeds : goal.exceeds_all-returns-clause-exceeds
exceeds_all-returns-clause-exceeds g t c =
    let r = g.T.Terms.ranks c.args.terms.now in
    let w = g.T.Terms.walked c.args.terms.now in
    all_end r (w.tree c.args.s) (GreaterThanAll r (w.tree c.args.s) (w.trees c.args.list)) (w.trees c.loop-b.rest) c.loop-b.invariant.left c.in_default.ensures

pub exceeds-returns-then-is_again-clause-exceeds : goal.exceeds-returns-then-is_again-clause-exceeds
exceeds-returns-then-is_again-clause-exceeds g t c =
    let r = g.T.Terms.ranks c.args.terms.now in
    let w = g.T.Terms.walked c.args.terms.now in
    (λ yes. again_greater r w c.args.s c.args.b c.args.last c.requires.last (c.is_again.ensures.again c.if-is_again.true), λ greater. refl)

pub exceeds-returns-clause-exceeds : goal.exceeds-returns-clause-exceeds
exceeds-returns-clause-exceeds g t c =
    let r = g.T.Terms.ranks c.args.terms.now in
    let w = g.T.Terms.walked c.args.terms.now in
    greater_test r (w.tree c.args.s) (w.tree c.args.b) c.in_ok-compare.field-0 c.is_greater.result c.in_ok-compare.ensures.comparison c.is_greater.ensures

pub some_reaches-returns-then-is_at_least-clause-reaches : goal.some_reaches-returns-then-is_at_least-clause-reaches
some_reaches-returns-then-is_at_least-clause-reaches g t c =
    let r = g.T.Terms.ranks c.args.terms.now in
    let w = g.T.Terms.walked c.args.terms.now in
    some_found r (w.tree c.args.t) (SomeAtLeast r (w.trees c.args.list) (w.tree c.args.t)) (w.trees c.loop-a.rest) c.loop-a.invariant.left _ _ c.in-Some.ensures.list_is
    c.in_ok-compare.field-0 c.is_at_least.result c.in_ok-compare.ensures.comparison c.is_at_least.ensures c.if-is_at_least.true

pub some_reaches-loop-a-preserved : goal.some_reaches-loop-a-preserved
some_reaches-loop-a-preserved g t c =
    let r = g.T.Terms.ranks c.args.terms.now in
    let w = g.T.Terms.walked c.args.terms.now in
    record {
      left = some_passed r (w.tree c.args.t) (SomeAtLeast r (w.trees c.args.list) (w.tree c.args.t)) (w.trees c.loop-a.rest) c.loop-a.invariant.left _ _ c.in-Some.ensures.list_is
          c.in_ok-compare.field-0 c.is_at_least.result c.in_ok-compare.ensures.comparison c.is_at_least.ensures c.if-is_at_least.false;
      memory = c.compare.ensures.memory;
      bound = omega (arith, c.in-Some.ensures.rest_within, c.loop-a.invariant.bound);
    }

pub some_reaches-returns-clause-reaches : goal.some_reaches-returns-clause-reaches
some_reaches-returns-clause-reaches g t c =
    let r = g.T.Terms.ranks c.args.terms.now in
    let w = g.T.Terms.walked c.args.terms.now in
    some_end r (w.tree c.args.t) (SomeAtLeast r (w.trees c.args.list) (w.tree c.args.t)) (w.trees c.loop-a.rest) c.loop-a.invariant.left c.in_default.ensures
