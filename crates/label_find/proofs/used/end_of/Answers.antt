use Rattle.std.proofs.Common.{◌≡◌, ap, arith, drop, get_or, refl}
use Rattle.std.proofs.lemmas.List.{drop_all}
use Rattle.label_find.specs.Lists.{end_of}
use Rattle.label_find.proofs.ListEnds.{end_more}
use Rattle.label_find.proofs.used.end_of.Goals as goal

pub loop-rule-preserved : goal.loop-rule-preserved
loop-rule-preserved c =
    let i = c.loop-rule.rule-index in
    end_more c.args.rules.now i (get_or c.args.rules.now i 0) c.loop-rule.end c.max-end.result c.loop-rule-test.true refl c.max-end.ensures c.loop-rule.invariant

pub returns : goal.returns
returns c =
    let none : end_of (drop c.loop-rule.rule-index c.args.rules.now) ≡ 0 = ap end_of (drop_all c.loop-rule.rule-index c.args.rules.now c.loop-rule-test.false) in
    omega (arith, c.loop-rule.invariant, none)
