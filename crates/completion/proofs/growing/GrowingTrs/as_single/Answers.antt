use Rattle.std.proofs.Common.{◌∙◌}
use Rattle.completion.proofs.GrowingLaws.{only_single}
use Rattle.completion.proofs.growing.GrowingTrs.as_single.Goals as goal

pub returns-in-len1 : goal.returns-in-len1
returns-in-len1 c =
    let inside = c.self.inside in
    only_single inside.arities.items inside.rules.items c.as_slice.result.now c.single-item.result (c.as_slice.ensures.value ∙ c.self.invariant.each_single) c.in-len1.len_at_least c.in-len1.len_below c.single-item.is
    ∙ c.self.view_is
