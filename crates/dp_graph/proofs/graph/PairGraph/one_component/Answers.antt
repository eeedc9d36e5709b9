use Rattle.std.proofs.Common.{◌∷◌, ◌++◌, [], ap, sym, subst, ◌∙◌}
use Rattle.pair_theory.specs.DependencyPair.{dependency_pairs}
use Rattle.dp_graph.specs.GroupOrSingle.{item_of, items_of}
use Rattle.dp_graph.specs.Components.{AreComponents}
use Rattle.dp_graph.proofs.OnePair.{one_component}
use Rattle.dp_graph.proofs.graph.PairGraph.one_component.Goals as goal

pub returns : goal.returns
returns c =
    let rules = c.args.self.now.rules in
    subst (λ items. AreComponents rules (dependency_pairs rules) (c.args.n ∷ []) (items_of items)) (sym (c.in_ok-push.ensures.items ∙ ap (λ items. items ++ c.in_ok-item.item ∷ []) c.new-items.ensures.items))
    (one_component rules (dependency_pairs rules) c.args.n (item_of c.in_ok-item.item) c.in_ok-item.ensures)
