use Rattle.std.proofs.Common.{refl, arith}
use Rattle.crit_pairs.proofs.GrowthLaws.{site_begun, site_begins}
use Rattle.crit_pairs.proofs.growing.begin_list.Goals as goal

pub returns-then-growth-len-clause-begins : goal.returns-then-growth-len-clause-begins
returns-then-growth-len-clause-begins c = λ rules from pool s left after h. site_begun rules from pool c.args.growth.now s left after h (omega (arith, c.if-growth-len.true, c.len.ensures))

pub returns-clause-begins : goal.returns-clause-begins
returns-clause-begins c = λ rules from pool s left after h.
    site_begins rules from pool c.args.growth.now s left after h _ c.new.result (omega (arith, c.if-growth-len.false, c.len.ensures, c.requires)) c.in_ok-push.ensures.items c.new.ensures.items refl refl
