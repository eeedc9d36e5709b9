use Rattle.std.proofs.Common.{refl, arith}
use Rattle.term_pool.proofs.Extending.{extends_on}
use Rattle.term_pool.proofs.StepLemmas.{rule_numbered}
use Rattle.term_pool.proofs.OutlineLaws.{nodes_next}
use Rattle.term_pool.proofs.pools.Pool.outlines_of.Goals as goal

pub loop-k-preserved : goal.loop-k-preserved
loop-k-preserved c =
    let rules = c.args.trs.now.rules in
    let lent = c.rules-rules.result.now in
    let rule = c.index-rules-k.result in
    let numbered = rule_numbered rules lent c.loop-k.k rule rule.left rule.right c.rules-rules.ensures.rules c.loop-k-test.true c.index-rules-k.is refl in
    let next = nodes_next rules lent c.loop-k.k rule c.rules-rules.ensures.rules c.loop-k-test.true c.index-rules-k.is in
    let few = c.in_ok-add_outline.ensures.few in
    record {
      outlines = c.in_ok-add_outline.ensures.outlines rules numbered c.loop-k.invariant.outlines;
      kept = extends_on c.args.self.now c.loop-k.self c.add_outline.new.self c.loop-k.invariant.kept c.in_ok-add_outline.ensures.kept;
      few = let was = c.loop-k.invariant.few in omega (arith, was, few, next);
    }
