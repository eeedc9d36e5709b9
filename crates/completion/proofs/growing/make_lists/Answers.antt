use Rattle.std.proofs.Common.{◌∙◌}
use Rattle.completion.proofs.GrowingLaws.{numbers_longer}
use Rattle.completion.proofs.growing.make_lists.Goals as goal

pub loop-alloc-preserved : goal.loop-alloc-preserved
loop-alloc-preserved c =
    λ g. numbers_longer c.loop-alloc.by_root.items c.push.new.self.items c.new.result c.in_ok-push.ensures.items c.new.ensures.items g ∙ c.loop-alloc.invariant g
