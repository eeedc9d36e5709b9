use Rattle.std.proofs.Common.{length, refl, subst}
use Rattle.std.proofs.lemmas.Option.{slice_get_read}
use Rattle.trs_defs.specs.System.{RewriteRule}
use Rattle.term_pool.specs.Pooled.{StandsFor}
use Rattle.term_pool.proofs.LeftSideLaws.{none_added, one_added}
use Rattle.term_pool.proofs.pools.Pool.add_left_sides.Goals as goal

pub loop-rule-init : goal.loop-rule-init
loop-rule-init c = none_added c.rules-rules.result.now c.args.self.now _ c.in_ok-ids.ensures.items

pub loop-rule-preserved : goal.loop-rule-preserved
loop-rule-preserved c =
    let rules = c.rules-rules.result.now in
    let there = slice_get_read rules (length rules) c.loop-rule.rule-index c.rule-item.result refl c.loop-rule-test.true c.rule-item.is in
    let id = c.in_ok-intern.field-0 in
    let stand = subst (λ (r : RewriteRule). StandsFor c.intern.new.self id r.left) c.rule.view_is c.in_ok-intern.ensures.id in
    rw c.in_ok-push.ensures.items (one_added rules c.args.self.now c.loop-rule.self c.intern.new.self c.loop-rule.ids.items c.loop-rule.rule-index id c.rule-item.result
    c.loop-rule.invariant there c.intern.ensures.kept stand)

pub returns-clause-sides : goal.returns-clause-sides
returns-clause-sides c = rw (← c.rules-rules.ensures.rules) (record { each = c.loop-rule.invariant.each; ground = c.in_ok-ground.ensures })
