use Rattle.poly_find.proofs.SpanValues.{AreSpansSoFar}
use Rattle.poly_find.proofs.spans.spans.Given as goal

abbrev pub invariant-loop-f : goal.invariant-loop-f
invariant-loop-f l = AreSpansSoFar l.arities l.symbols l.f-index l.start l.spans.items
