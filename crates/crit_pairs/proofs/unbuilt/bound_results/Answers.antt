use Rattle.std.proofs.Common.{◌≡◌, [], sym, subst}
use Rattle.trs_defs.specs.Variable.{variables_of}
use Rattle.trs_defs.specs.Substitution.{apply}
use Rattle.trs_core.specs.View.{tree}
use Rattle.trs_unify.specs.Renamed.{IsRenamed}
use Rattle.crit_pairs.specs.Meeting.{solution}
use Rattle.crit_pairs.specs.InOrder.{in_order}
use Rattle.crit_pairs.proofs.TermsInOrder.{in_order_renamed}
use Rattle.crit_pairs.proofs.Renumbering.{none_distinct}
use Rattle.crit_pairs.proofs.unbuilt.bound_results.Goals as goal

pub name_instance-requires : goal.name_instance-requires
name_instance-requires c = rw c.clear.ensures none_distinct

pub returns : goal.returns
returns c =
    let top = apply (solution c.args.bindings.now) (tree c.args.top.now) in
    let named : c.name_instance.new.names.order.items ≡ variables_of top = rw c.clear.ensures at c.in_ok-name_instance.ensures.order in
    record {
      first = c.name_instance.new.names.order.items;
      second = c.renumber.new.names.order.items;
      third = c.renumber-2.new.names.order.items;
      top_renamed = subst (λ names. IsRenamed [] names top (in_order top)) (sym named) (in_order_renamed top);
      left_renamed = c.in_ok-first.ensures.renamed;
      right_renamed = c.in_ok-second.ensures.renamed;
      distinct = c.in_ok-second.ensures.distinct;
    }
