use Rattle.std.proofs.Common.{◌∙◌, ap, ◌++◌, ◌∷◌, []}
use Rattle.trs_defs.specs.System.{RewriteRule}
use Rattle.order_search.proofs.TakenPairs.{one_taken, all_taken}
use Rattle.poly_find.proofs.chosen.choose_rules.Goals as goal

pub loop-n-preserved : goal.loop-n-preserved
loop-n-preserved c =
    one_taken c.args.rules.now c.args.numbers.now c.loop-n.n-index c.index-rules-n.result c.loop-n.chosen.items c.push.new.self.items c.loop-n-test.true c.requires c.index-rules-n.is c.loop-n.invariant
    (c.in_ok-push.ensures.items ∙ ap (λ (x : RewriteRule). c.loop-n.chosen.items ++ x ∷ []) c.in_ok-copy_rule.ensures)

pub returns : goal.returns
returns c = all_taken c.args.rules.now c.args.numbers.now c.loop-n.n-index c.loop-n.chosen.items c.loop-n-test.false c.loop-n.invariant
