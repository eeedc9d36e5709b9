use Rattle.std.proofs.Common.{◌≤◌, inr, ◌∙◌, arith}
use Rattle.crit_pairs.proofs.EqualRules.{made_again}
use Rattle.crit_pairs.proofs.GrowthLaws.{ok_then}
use Rattle.crit_pairs.proofs.growing.add_again.Goals as goal

pub returns-clause-adds : goal.returns-clause-adds
returns-clause-adds c = ok_then c.add_made.result (λ adds rules s pool h.
    let few : c.in_ok-total.total ≤ 4194304 = omega (arith, c.in_ok-total.ensures.few.0, c.in_ok-total.ensures.few.1) in
    inr (adds rules s pool pool (made_again rules s pool c.args.growth.now.nodes c.args.nodes _ (c.in_ok-total.ensures.few.0 ∙ c.saturating_add.ensures) few h))) c.add_made.ensures.adds
