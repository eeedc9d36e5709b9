use Rattle.std.proofs.Common.{◌∷◌, [], ap, length, length-append, sym, arith}
use Rattle.crit_pairs.proofs.EqualLefts.{no_left_numbers, one_left_more}
use Rattle.crit_pairs.proofs.equal_lefts.equal_lefts.Goals as goal

pub loop-k-init : goal.loop-k-init
loop-k-init c = record {
  equal = no_left_numbers c.args.rules.now _ c.in_ok-firsts.ensures.items;
  numbered = ap length c.in_ok-firsts.ensures.items;
}

pub loop-k-preserved : goal.loop-k-preserved
loop-k-preserved c =
    let put = c.in_ok-push.ensures.items in
    record {
      equal = one_left_more c.args.rules.now c.loop-k.firsts.items _ c.loop-k.k c.in_ok-first_with_left.field-0 (sym c.loop-k.invariant.numbered) c.in_ok-first_with_left.ensures put c.loop-k.invariant.equal;
      numbered = omega (arith, ap length put, length-append c.loop-k.firsts.items (c.in_ok-first_with_left.field-0 ∷ []), c.loop-k.invariant.numbered);
    }
