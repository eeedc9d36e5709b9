use Rattle.trs_core.specs.View.{tree}
use Rattle.poly_lin.proofs.Windows.{sums_are, more_covered, none_covered, known_there, not_known}
use Rattle.poly_lin.proofs.covering.cover_known.Goals as goal

pub returns-then-not-are_at_least-clause-not_covered : goal.returns-then-not-are_at_least-clause-not_covered
returns-then-not-are_at_least-clause-not_covered g c =
    let k = g.T.Coefficients.coefficient c.args.table.now in
    not_known k (tree c.args.a.now) (tree c.args.b.now) 64 0 c.add_coefficients-next.new.sums
    (sums_are k 64 0 (tree c.args.b.now) c.add_coefficients-next.new.sums c.add_coefficients-next.ensures.added)
    c.args.known.now c.requires c.are_at_least.result c.are_at_least.ensures c.if-not-are_at_least.true

pub cover_rest-requires : goal.cover_rest-requires
cover_rest-requires g c =
    let k = g.T.Coefficients.coefficient c.args.table.now in
    let s = tree c.args.a.now in
    let t = tree c.args.b.now in
    let sums = sums_are k 64 0 t c.add_coefficients-next.new.sums c.add_coefficients-next.ensures.added in
    more_covered k s t 64 0 c.add_coefficients-next.new.sums sums c.add_coefficients-next.result (none_covered k s t)
    (known_there k s t 64 0 c.add_coefficients-next.new.sums sums c.args.known.now c.requires (c.are_at_least.ensures.0 c.if-not-are_at_least.false)) c.add_coefficients-next.ensures.next
