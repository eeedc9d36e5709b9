use Rattle.std.proofs.Common.{inl}
use Rattle.trs_core.specs.View.{tree}
use Rattle.kbo_order.proofs.Profiling.{not_weak, only_weak, undecided, decided}
use Rattle.kbo_order.proofs.profiles.level_decrease.Goals as goal

pub decides-requires : goal.decides-requires
decides-requires g c = c.are_apart.ensures.0 c.if-not-are_apart.false

pub returns-then-same : goal.returns-then-same
returns-then-same g c =
    let same = c.same.ensures.0 c.if-same.true in
    (c.requires.fits, (inl same, only_weak (g.W.Weighting.weights c.args.order.now) (g.W.Weighting.ranks c.args.order.now) (tree c.args.s.now) (tree c.args.t.now) same))

pub returns-then-not-decides : goal.returns-then-not-decides
returns-then-not-decides g c =
    let w = g.W.Weighting.weights c.args.order.now in
    let r = g.W.Weighting.ranks c.args.order.now in
    let s = tree c.args.s.now in
    let t = tree c.args.t.now in (
      c.requires.fits,
      not_weak w r s t (λ same. let yes = c.same.ensures.1 same in absurd (cc (yes, c.if-same.false)))
          (undecided w r s t c.requires.level c.decides.result c.decides.ensures c.if-not-decides.true),
    )

pub decrease_by_occurrences-requires : goal.decrease_by_occurrences-requires
decrease_by_occurrences-requires g c = record {
  fits = c.requires.fits;
  unlike = λ same. let yes = c.same.ensures.1 same in absurd (cc (yes, c.if-same.false));
  balances = c.requires.balances;
  greater = decided (g.W.Weighting.weights c.args.order.now) (g.W.Weighting.ranks c.args.order.now) (tree c.args.s.now) (tree c.args.t.now) c.requires.level c.decides.result c.decides.ensures c.if-not-decides.false;
}
