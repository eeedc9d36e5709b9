use Rattle.std.proofs.Common.{sym, ◌∙◌}
use Rattle.trs_defs.proofs.OrderLaws.{tree_cmp_total, tree_cmp_equal, tree_cmp_same}
use Rattle.trs_core.specs.View.{tree}
use Rattle.trs_core.proofs.terms.Term.compare.Goals as goal

pub returns-clause-total : goal.returns-clause-total
returns-clause-total c = tree_cmp_total

pub returns-clause-equal : goal.returns-clause-equal
returns-clause-equal c =
    let t = tree c.args.self.now in
    let u = tree c.args.other.now in
    (λ e. tree_cmp_equal t u (sym c.order.ensures ∙ e), λ e. c.order.ensures ∙ tree_cmp_same t u e)
