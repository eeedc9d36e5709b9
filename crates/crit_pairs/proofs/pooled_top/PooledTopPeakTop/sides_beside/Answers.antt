use Rattle.std.proofs.Common.{◌∙◌}
use Rattle.crit_pairs.proofs.pooled_top.PooledTopPeakTop.sides_beside.Goals as goal

pub returns-clause-right : goal.returns-clause-right
returns-clause-right c =
    let (rules, peaks, r, p, held, numbered, whole, there, right) = c.requires.held in
    c.of-2.ensures ∙ (c.in_ok-pair.ensures.right rules peaks p held there ∙ right)

pub returns-clause-held : goal.returns-clause-held
returns-clause-held c = λ rules peaks p held left right. c.in_ok-pair.ensures.holds rules peaks p held (left ∙ c.of.ensures) (right ∙ c.of-2.ensures)
