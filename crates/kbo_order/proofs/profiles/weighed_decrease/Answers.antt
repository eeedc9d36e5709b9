use Rattle.std.proofs.Common.{◌<◌, inr, subst, sym, arith}
use Rattle.std.proofs.lemmas.Result.{err_from_is_err_and}
use Rattle.trs_core.specs.View.{tree}
use Rattle.order_theory.specs.KnuthBendix.{weigh, by_weight}
use Rattle.kbo_order.specs.Balances.{AreDifferences}
use Rattle.kbo_order.specs.TooBig.{EitherIsBig}
use Rattle.kbo_order.specs.Profiles.{AreOccurrences}
use Rattle.kbo_order.proofs.Viewers.{big_of}
use Rattle.kbo_order.proofs.Profiling.{differences_counted, neither_big, lighter, unlike}
use Rattle.kbo_order.proofs.profiles.weighed_decrease.Goals.{In_ok-other}
use Rattle.kbo_order.proofs.profiles.weighed_decrease.Goals as goal

fits : (g : _) (c : In_ok-other g) → EitherIsBig (g.W.Weighting.weights c.args.order.now) (tree c.args.s.now) (tree c.args.t.now) → ⊥
fits g c =
    neither_big (g.W.Weighting.weights c.args.order.now) (tree c.args.s.now) (tree c.args.t.now) c.args.weight c.in_ok-other.other c.requires.weight c.in_ok-other.ensures.weight

differ : (g : _) (c : In_ok-other g) → AreDifferences 64 0 (tree c.args.s.now) (tree c.args.t.now) c.measure.new.balances
differ g c =
    differences_counted (g.W.Weighting.weights c.args.order.now) 64 0 (tree c.args.s.now) (tree c.args.t.now) c.in_ok-other.other c.copy-balances.result c.measure.new.balances
    (subst (AreOccurrences 64 0 (tree c.args.s.now)) (sym c.copy-balances.ensures) c.requires.occurrences) c.in_ok-other.ensures.weight c.in_ok-other.ensures.counted

pub returns-in_err-other : goal.returns-in_err-other
returns-in_err-other g c =
    let p = err_from_is_err_and c.from_residual.result c.from_residual.ensures.1 in
    rw p.1 (inr (big_of (g.W.Weighting.weights c.args.order.now) (tree c.args.t.now) c.in_err-other.ensures.weight))

pub returns-then-weight-other-2 : goal.returns-then-weight-other-2
returns-then-weight-other-2 g c =
    let w = g.W.Weighting.weights c.args.order.now in
    let less : weigh w (tree c.args.s.now) < weigh w (tree c.args.t.now) = omega (arith, c.requires.weight.0, c.in_ok-other.ensures.weight.0, c.if-weight-other-2.true) in
    (fits g (goal.at.returns-then-weight-other-2 g c).In_ok-other, lighter w (g.W.Weighting.ranks c.args.order.now) (tree c.args.s.now) (tree c.args.t.now) less)

pub level_decrease-requires : goal.level_decrease-requires
level_decrease-requires g c = record {
  fits = fits g (goal.at.level_decrease-requires g c).In_ok-other;
  level = omega (arith, c.requires.weight.0, c.in_ok-other.ensures.weight.0, c.if-weight-other.true);
  balances = differ g (goal.at.level_decrease-requires g c).In_ok-other;
}

pub decrease_by_occurrences-requires : goal.decrease_by_occurrences-requires
decrease_by_occurrences-requires g c =
    let w = g.W.Weighting.weights c.args.order.now in
    let less : weigh w (tree c.args.t.now) < weigh w (tree c.args.s.now) =
    omega (arith, c.requires.weight.0, c.in_ok-other.ensures.weight.0, c.if-weight-other.false, c.if-weight-other-2.false) in
    record {
      fits = fits g (goal.at.decrease_by_occurrences-requires g c).In_ok-other;
      unlike = unlike w (g.W.Weighting.ranks c.args.order.now) (tree c.args.s.now) (tree c.args.t.now) less;
      balances = differ g (goal.at.decrease_by_occurrences-requires g c).In_ok-other;
      greater = λ keep. by_weight keep less;
    }
