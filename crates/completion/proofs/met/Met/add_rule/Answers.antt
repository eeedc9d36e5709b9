use Rattle.std.proofs.Common.{IfSome, refl, subst, take}
use Rattle.trs_defs.specs.System.{RewriteRule}
use Rattle.term_pool.specs.Pooled.{StandsFor}
use Rattle.term_pool.specs.LeftSides.{IsGround}
use Rattle.completion.proofs.MetLaws.{one_rule_more}
use Rattle.completion.proofs.met.Met.add_rule.Goals as goal

pub returns-clause-met : goal.returns-clause-met
returns-clause-met c =
    let met = c.ground_side.new.self in
    let S : RewriteRule → Type 0 = λ r. IfSome c.in_ok-side.side (λ id. StandsFor (take met.base met.pool) id r.left) in
    let G : RewriteRule → Type 0 = λ r. IfSome c.in_ok-side.side (λ _. IsGround r.left) in
    λ rules h.
    one_rule_more rules met _ (c.in_ok-side.ensures.met rules h) c.args.rule.now c.in_ok-side.side refl refl refl c.in_ok-push.ensures.items
    (subst S c.rule.view_is c.in_ok-side.ensures.id) (subst G c.rule.view_is c.in_ok-side.ensures.ground)
