use Rattle.std.proofs.Common.{◌≡◌, ℕ, ◌+◌, get_or, ap, refl, arith}
use Rattle.poly_find.specs.PolyPlaces.{parts_by}
use Rattle.poly_find.proofs.Starts.{next_start}
use Rattle.poly_find.proofs.PolySteps.{one_entry_more}
use Rattle.poly_find.proofs.table.interpretation.Goals as goal

pub loop-f-preserved : goal.loop-f-preserved
loop-f-preserved c =
    let f = get_or c.args.symbols.now c.loop-f.f-index 0 in
    let n = c.arity_of-parts.result + 1 in
    let h = c.loop-f.invariant in
    let many : c.arity_of-parts.result + 1 ≡ parts_by c.args.arities.now f = ap (λ (m : ℕ). m + 1) c.arity_of-parts.ensures.value in
    record {
      begins = next_start (parts_by c.args.arities.now) c.args.symbols.now c.loop-f.f-index c.loop-f.start n c.loop-f-test.true many h.begins;
      small = omega (arith, h.small, c.arity_of-parts.ensures.byte);
      made = one_entry_more c.args.arities.now c.args.symbols.now c.args.values.now c.requires.distinct c.loop-f.f-index f n c.loop-f.start c.in_ok-polynomial.field-0
          c.loop-f.entries.items c.push.new.self.items c.loop-f-test.true refl many h.begins c.in_ok-polynomial.ensures c.in_ok-push.ensures.items h.made;
    }
