use Rattle.trs_core.specs.View.{tree}
use Rattle.kbo_order.proofs.Profiling.{if_counted}
use Rattle.kbo_order.proofs.profiles.profile_of.Goals as goal

pub returns : goal.returns
returns g c = record {
  weighed = c.measure-weight.ensures.weight;
  counted = if_counted (g.W.Weighting.weights c.args.order.now) 64 0 (tree c.args.t.now) c.measure-weight.result c.new-occurrences.result c.measure-weight.new.balances
      c.new-occurrences.ensures c.measure-weight.ensures.weight c.measure-weight.ensures.counted;
}
