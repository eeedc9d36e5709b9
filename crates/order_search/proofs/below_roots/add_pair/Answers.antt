use Rattle.std.proofs.Common.{subst, ◌++◌, OnOk}
use Rattle.pair_theory.specs.DependencyPair.{DependencyPair}
use Rattle.dp_core.specs.Symbols.{symbols_of_all}
use Rattle.order_search.specs.SymbolSets.{Adds}
use Rattle.order_search.proofs.Growing.{sides_added}
use Rattle.order_search.proofs.below_roots.add_pair.Goals as goal

pub returns : goal.returns
returns c =
    subst (λ (p : DependencyPair). OnOk c.add_arguments-2.result (Adds c.args.set.now.items c.add_arguments-2.new.set.items (symbols_of_all p.from.args ++ symbols_of_all p.to.args))) c.pair.view_is
    (sides_added c.args.set.now.items c.add_arguments.new.set.items c.add_arguments-2.new.set.items (symbols_of_all c.pair.inside.from.args) (symbols_of_all c.pair.inside.to.args) c.add_arguments-2.result
    c.in_ok-add_arguments.ensures c.add_arguments-2.ensures)
