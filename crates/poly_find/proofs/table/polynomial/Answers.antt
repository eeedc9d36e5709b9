use Rattle.std.proofs.Common.{◌∙◌}
use Rattle.poly_find.proofs.Starts.{one_value_more}
use Rattle.poly_find.proofs.table.polynomial.Goals as goal

pub loop-i-preserved : goal.loop-i-preserved
loop-i-preserved c =
    one_value_more c.args.values.now c.args.start c.args.parts c.loop-i.i c.from.result c.loop-i.coefficients.items c.push.new.self.items c.loop-i-test.true
    (c.from.ensures ∙ c.value_at.ensures) c.in_ok-push.ensures.items c.loop-i.invariant
