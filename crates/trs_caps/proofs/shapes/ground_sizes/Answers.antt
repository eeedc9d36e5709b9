use Rattle.std.proofs.Common.{◌≡◌, ◌≢◌, ◌-◌, ◌^◌, min, length, refl, subst}
use Rattle.std.proofs.lemmas.Option.{slice_get_read}
use Rattle.trs_defs.specs.Size.{size_of}
use Rattle.trs_defs.specs.System.{RewriteRule}
use Rattle.term_pool.specs.LeftSides.{IsGround}
use Rattle.trs_caps.proofs.ShapeLaws.{no_sizes, next_size}
use Rattle.trs_caps.proofs.shapes.ground_sizes.Goals as goal

pub loop-rule-init : goal.loop-rule-init
loop-rule-init c = rw c.in_ok-sizes.ensures.items (record { count = refl; known = no_sizes c.rules-rules.result.now _ refl })

pub loop-rule-preserved : goal.loop-rule-preserved
loop-rule-preserved c =
    let rules = c.rules-rules.result.now in
    let n = c.ground_size.result in
    let there = slice_get_read rules (length rules) c.loop-rule.rule-index c.rule-item.result refl c.loop-rule-test.true c.rule-item.is in
    let ground = subst (λ (r : RewriteRule). n ≢ 0 → IsGround r.left) c.rule.view_is c.ground_size.ensures.ground in
    let size = subst (λ (r : RewriteRule). n ≢ 0 → n ≡ min (size_of r.left) (2 ^ 32 - 1)) c.rule.view_is c.ground_size.ensures.size in
    rw c.in_ok-push.ensures.items (next_size rules c.loop-rule.sizes.items c.loop-rule.rule-index n c.rule-item.result c.loop-rule.invariant there ground size)

pub returns : goal.returns
returns c = rw (← c.rules-rules.ensures.rules) c.loop-rule.invariant.known
