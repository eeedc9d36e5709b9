use Rattle.std.proofs.Common.{◌≡◌, ◌++◌, subst}
use Rattle.pair_theory.specs.DependencyPair.{DependencyPair}
use Rattle.dp_core.specs.Symbols.{symbols_of_all}
use Rattle.dp_core.specs.LeastLacking.{least_lacking}
use Rattle.usable_rules.proofs.SymbolsAsked.{both_asked}
use Rattle.usable_rules.proofs.lacking.lacking_in_sides.Goals as goal

pub returns : goal.returns
returns g c =
    let has = g.O.ReductionPair.has c.args.order.now in
    subst (λ (q : DependencyPair). c.lacking_in_arguments.result ≡ least_lacking has c.args.least (symbols_of_all q.from.args ++ symbols_of_all q.to.args)) c.sides.view_is
    (both_asked has (symbols_of_all c.sides.inside.from.args) (symbols_of_all c.sides.inside.to.args) c.args.least c.lacking_in_arguments-left.result c.lacking_in_arguments.result
    c.lacking_in_arguments-left.ensures c.lacking_in_arguments.ensures)
