use Rattle.std.proofs.Common.{length, ap, sym, subst, ◌∙◌}
use Rattle.poly_find.specs.RuleSubterms.{AreOfEach}
use Rattle.poly_find.proofs.RuleListing.{more_of_each, one_longer}
use Rattle.poly_find.proofs.subterms.subterms_of_rules.Goals as goal

pub loop-k-preserved : goal.loop-k-preserved
loop-k-preserved c = (
  subst (AreOfEach c.args.rules.now) (sym c.in_ok-push.ensures.items)
      (more_of_each c.args.rules.now c.loop-k.listed.items c.loop-k.k c.index-rules-k.result c.in_ok-subterms_of.field-0 c.loop-k.invariant.1 c.loop-k-test.true c.index-rules-k.is
      c.in_ok-subterms_of.ensures c.loop-k.invariant.0),
  ap length c.in_ok-push.ensures.items ∙ one_longer c.loop-k.listed.items c.in_ok-subterms_of.field-0 c.loop-k.k c.loop-k.invariant.1,
)
