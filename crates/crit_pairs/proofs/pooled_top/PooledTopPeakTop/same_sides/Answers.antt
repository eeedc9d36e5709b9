use Rattle.std.proofs.Common.{◌∙◌}
use Rattle.crit_pairs.proofs.pooled_top.PooledTopPeakTop.same_sides.Goals as goal

pub returns-clause-left : goal.returns-clause-left
returns-clause-left c =
    let (rules, peaks, p, held, there, left, right) = c.requires.held in
    c.of.ensures ∙ (c.in_ok-pair.ensures.left rules peaks p held there ∙ left)

pub returns-clause-right : goal.returns-clause-right
returns-clause-right c =
    let (rules, peaks, p, held, there, left, right) = c.requires.held in
    c.of-2.ensures ∙ (c.in_ok-pair.ensures.right rules peaks p held there ∙ right)

pub returns-clause-held : goal.returns-clause-held
returns-clause-held c = λ rules peaks p held left right. c.in_ok-pair.ensures.holds rules peaks p held (left ∙ c.of.ensures) (right ∙ c.of-2.ensures)
