use Rattle.std.proofs.Common.{◌≡◌, ℕ, ◌+◌, length, get_or, ap, refl, arith}
use Rattle.poly_find.specs.PolyPlaces.{parts_by}
use Rattle.poly_find.proofs.Starts.{none_listed, one_symbol_more, all_symbols, grown_length}
use Rattle.poly_find.proofs.owners.owners.Goals as goal

pub loop-f-init : goal.loop-f-init
loop-f-init c =
    let none : length c.new-owners.result.items ≡ 0 = ap length c.new-owners.ensures.items in
    record { all = none_listed c.args.arities.now c.args.symbols.now c.new-owners.result.items c.new-owners.ensures.items; few = omega (arith, none) }

pub loop-f-preserved : goal.loop-f-preserved
loop-f-preserved c =
    let f = get_or c.args.symbols.now c.loop-f.f-index 0 in
    let grown = grown_length f (c.arity_of.result + 1) c.loop-f.owners.items c.add_owner.new.owners.items c.in_ok-add_owner.ensures in
    let many : c.arity_of.result + 1 ≡ parts_by c.args.arities.now f = ap (λ (n : ℕ). n + 1) c.arity_of.ensures.value in
    record {
      all = one_symbol_more c.args.arities.now c.args.symbols.now c.loop-f.f-index f (c.arity_of.result + 1) c.loop-f.owners.items c.add_owner.new.owners.items
          c.loop-f-test.true refl many c.in_ok-add_owner.ensures c.loop-f.invariant.all;
      few = omega (arith, grown, c.loop-f.invariant.few, c.arity_of.ensures.byte);
    }

pub returns : goal.returns
returns c = record {
  owners = all_symbols c.args.arities.now c.args.symbols.now c.loop-f.f-index c.loop-f.owners.items c.loop-f-test.false c.loop-f.invariant.all;
  few = omega (arith, c.loop-f.invariant.few, c.loop-f.auto.f-index-end);
}
