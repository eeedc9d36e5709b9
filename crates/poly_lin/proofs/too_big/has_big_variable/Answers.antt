use Rattle.std.proofs.Common.{sym, ◌∙◌}
use Rattle.trs_core.specs.View.{tree}
use Rattle.poly_lin.proofs.Windows.{sums_are}
use Rattle.poly_lin.proofs.BigVariables.{none_small, some_big, more_small}
use Rattle.poly_lin.proofs.too_big.has_big_variable.Goals as goal

pub has_big_from-requires : goal.has_big_from-requires
has_big_from-requires g c =
    let sums = c.add_coefficients-next.new.sums in
    more_small (g.T.Coefficients.coefficient c.args.table.now) (tree c.args.t.now) 0 8 sums
    (sums_are (g.T.Coefficients.coefficient c.args.table.now) 8 0 (tree c.args.t.now) sums c.add_coefficients-next.ensures.added)
    c.add_coefficients-next.result (none_small (g.T.Coefficients.coefficient c.args.table.now) (tree c.args.t.now))
    (sym c.has_big.ensures ∙ c.if-has_big.false) c.add_coefficients-next.ensures.next

pub returns-then-has_big : goal.returns-then-has_big
returns-then-has_big g c =
    let sums = c.add_coefficients-next.new.sums in
    let big = some_big (g.T.Coefficients.coefficient c.args.table.now) (tree c.args.t.now) 0 8 sums
    (sums_are (g.T.Coefficients.coefficient c.args.table.now) 8 0 (tree c.args.t.now) sums c.add_coefficients-next.ensures.added)
    c.add_coefficients-next.ensures.length (sym c.has_big.ensures ∙ c.if-has_big.true) in
    (λ _. big, λ _. c.if-has_big.true)
