use Rattle.trs_core.specs.View.{tree}
use Rattle.crit_pairs.proofs.Renumbering.{distinct_names}
use Rattle.completion.proofs.Renumbered.{variants, left_counted, both_counted}
use Rattle.completion.proofs.renumbering.renumber.Goals as goal

pub returns-clause-variants : goal.returns-clause-variants
returns-clause-variants c =
    variants c.number_variables.new.names.order.items c.number_variables-2.new.names.order.items (tree c.args.s.now) (tree c.args.t.now) (tree c.in_ok-left.left) (tree c.in_ok-right.right)
    (rw c.no_names-names.ensures.none at c.in_ok-left.ensures.renamed) c.in_ok-right.ensures.renamed (distinct_names _ _ c.in_ok-right.ensures.names)

pub returns-clause-left : goal.returns-clause-left
returns-clause-left c =
    left_counted c.number_variables.new.names.order.items c.number_variables-2.new.names.order.items (tree c.args.s.now) (tree c.args.t.now) (tree c.in_ok-left.left) (tree c.in_ok-right.right)
    (rw c.no_names-names.ensures.none at c.in_ok-left.ensures.renamed) c.in_ok-right.ensures.renamed (distinct_names _ _ c.in_ok-right.ensures.names)

pub returns-clause-both : goal.returns-clause-both
returns-clause-both c =
    both_counted c.number_variables.new.names.order.items c.number_variables-2.new.names.order.items (tree c.args.s.now) (tree c.args.t.now) (tree c.in_ok-left.left) (tree c.in_ok-right.right)
    (rw c.no_names-names.ensures.none at c.in_ok-left.ensures.renamed) c.in_ok-right.ensures.renamed (distinct_names _ _ c.in_ok-right.ensures.names)
