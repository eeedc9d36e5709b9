use Rattle.rewrite_core.specs.Check.{holds, lacks}
use Rattle.rule_label.proofs.labelled.labels_fit.Goals as goal

pub returns-then-ranks_fit : goal.returns-then-ranks_fit
returns-then-ranks_fit c =
    let fits = rw (c.rank_of.ensures, c.rank_of-2.ensures) at c.ranks_fit.ensures in
    holds (fits.0 c.if-ranks_fit.true)

pub returns-else-ranks_fit : goal.returns-else-ranks_fit
returns-else-ranks_fit c =
    let fits = rw (c.rank_of.ensures, c.rank_of-2.ensures) at c.ranks_fit.ensures in
    lacks (λ h. let wrong = fits.1 h in let other = c.if-ranks_fit.false in absurd cc)
