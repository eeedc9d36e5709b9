use Rattle.tree_core.proofs.WonClaims.{won_says}
use Rattle.tree_core.proofs.laws.won_claims_are_true.Goals as goal

pub returns : goal.returns
returns c =
    let i = c.tree.inside in
    rw (← c.tree.view_is) (λ claim won. won_says i.question i.system.now i.limits.budget i.board c.tree.invariant won.0 won.1 claim won.2)
