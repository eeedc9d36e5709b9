use Rattle.std.proofs.Common.{◌≡◌, [], sym, subst}
use Rattle.trs_defs.specs.Variable.{variables_of}
use Rattle.trs_defs.specs.Substitution.{apply, bound}
use Rattle.trs_core.specs.View.{tree}
use Rattle.trs_unify.specs.Renamed.{IsRenamed}
use Rattle.crit_pairs.specs.InOrder.{in_order}
use Rattle.crit_pairs.proofs.TermsInOrder.{in_order_renamed}
use Rattle.crit_pairs.proofs.Renumbering.{distinct_names}
use Rattle.crit_pairs.proofs.unbuilt.shared_results.Goals as goal

pub returns : goal.returns
returns c =
    let top = apply (bound c.args.unifier.now) (tree c.args.top.now) in
    let named : c.name_instance.new.names.order.items ≡ variables_of top = rw c.no_names-names.ensures.none at c.in_ok-name_instance.ensures.order in
    record {
      first = c.name_instance.new.names.order.items;
      second = c.renumber.new.names.order.items;
      third = c.renumber-2.new.names.order.items;
      top_renamed = subst (λ names. IsRenamed [] names top (in_order top)) (sym named) (in_order_renamed top);
      left_renamed = c.in_ok-first.ensures.renamed;
      right_renamed = c.in_ok-second.ensures.renamed;
      distinct = distinct_names c.renumber-2.new.names.numbers c.renumber-2.new.names.order.items c.in_ok-second.ensures.names;
    }
