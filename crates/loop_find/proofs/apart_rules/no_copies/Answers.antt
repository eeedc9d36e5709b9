use Rattle.std.proofs.Common.{length-append, ap, length, arith, None, [], ◌∷◌}
use Rattle.loop_find.proofs.Copies.{no_copy_more}
use Rattle.loop_find.proofs.apart_rules.no_copies.Goals as goal

pub loop-preserved : goal.loop-preserved
loop-preserved c = record {
  count = omega (arith, c.loop.invariant.count, ap length c.in_ok-push.ensures.items, length-append c.loop.copies.items (None ∷ []));
  none = no_copy_more c.loop.copies.items c.push.new.self.items c.in_ok-push.ensures.items c.loop.invariant.none;
}
