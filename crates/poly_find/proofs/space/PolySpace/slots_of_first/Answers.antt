use Rattle.std.proofs.Common.{◌≡◌, ◌+◌, ◌-◌, get_or, refl, arith}
use Rattle.poly_find.proofs.SlotEnds.{last_span}
use Rattle.poly_find.proofs.space.PolySpace.slots_of_first.Goals as goal

pub overflow_add-result : goal.overflow_add-result
overflow_add-result c =
    let x = c.args.self.now in
    let next : c.args.count ≡ c.args.count - 1 + 1 = omega (arith, c.if-count-eq0.false) in
    let all = last_span x.arities.now x.symbols.now x.spans.now c.args.count (c.args.count - 1) (get_or x.symbols.now (c.args.count - 1) 0) c.span_at-span.result x.spans_are c.requires.within next
    refl c.span_at-span.ensures in
    omega (arith, all, c.requires.few)

pub returns : goal.returns
returns c =
    let x = c.args.self.now in
    let next : c.args.count ≡ c.args.count - 1 + 1 = omega (arith, c.if-count-eq0.false) in
    last_span x.arities.now x.symbols.now x.spans.now c.args.count (c.args.count - 1) (get_or x.symbols.now (c.args.count - 1) 0) c.span_at-span.result x.spans_are c.requires.within next
    refl c.span_at-span.ensures
