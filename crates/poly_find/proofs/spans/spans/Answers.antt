use Rattle.std.proofs.Common.{◌+◌, ap, get_or, refl, arith}
use Rattle.poly_find.proofs.SpanValues.{one_span_more}
use Rattle.poly_find.proofs.spans.spans.Goals as goal

pub loop-f-preserved : goal.loop-f-preserved
loop-f-preserved c =
    let f = get_or c.args.symbols.now c.loop-f.f-index 0 in
    one_span_more c.args.arities.now c.args.symbols.now c.requires.distinct c.requires.small c.loop-f.f-index c.loop-f.start (c.arity_of-parts.result + 1) f c.loop-f.spans.items
    c.loop-f-test.true refl (ap (λ n. n + 1) c.arity_of-parts.ensures.value) (omega (arith, c.arity_of-parts.ensures.byte)) c.loop-f.invariant _ refl
