use Rattle.std.proofs.Common.{inr}
use Rattle.trs_core.specs.View.{tree}
use Rattle.kbo_order.proofs.Profiling.{not_weak, deficient, keeps}
use Rattle.kbo_order.proofs.profiles.decrease_by_occurrences.Goals as goal

pub returns-then-not-have_no_deficit : goal.returns-then-not-have_no_deficit
returns-then-not-have_no_deficit g c =
    let w = g.W.Weighting.weights c.args.order.now in
    let r = g.W.Weighting.ranks c.args.order.now in
    let s = tree c.args.s.now in
    let t = tree c.args.t.now in (
      c.requires.fits,
      not_weak w r s t c.requires.unlike
          (deficient w r s t 64 c.args.balances.now c.requires.balances c.have_no_deficit.result c.have_no_deficit.ensures c.if-not-have_no_deficit.true),
    )

pub returns-in-None : goal.returns-in-None
returns-in-None g c =
    let keep = keeps (g.W.Weighting.weights c.args.order.now) (g.W.Weighting.ranks c.args.order.now) (tree c.args.s.now) (tree c.args.t.now) 64 c.args.balances.now c.requires.balances
    (c.have_no_deficit.ensures.0 c.if-not-have_no_deficit.false) c.least_variable.result c.least_variable.ensures c.in-None.is in
    let greater = c.requires.greater keep in
    (c.requires.fits, (inr greater, greater))
