use Rattle.std.proofs.Common.{length-append, ap, length, arith, None, [], ◌∷◌}
use Rattle.crit_pairs.proofs.PooledRuleLaws.{no_side_more}
use Rattle.crit_pairs.proofs.pooled_rules.no_sides.Goals as goal

pub loop-preserved : goal.loop-preserved
loop-preserved c = record {
  count = omega (arith, c.loop.invariant.count, ap length c.in_ok-push.ensures.items, length-append c.loop.sides.items (None ∷ []));
  none = no_side_more c.loop.sides.items c.push.new.self.items c.in_ok-push.ensures.items c.loop.invariant.none;
}
