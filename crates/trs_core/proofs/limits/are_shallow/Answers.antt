use Rattle.std.proofs.Common.{All, refl, sym, subst, arith}
use Rattle.std.proofs.lemmas.List.{take_all}
use Rattle.std.proofs.lemmas.List.Elements.{All-nil, All-more}
use Rattle.trs_core.specs.SystemLimits.{IsShallow}
use Rattle.trs_core.proofs.limits.are_shallow.Goals as goal

pub loop-rule-init : goal.loop-rule-init
loop-rule-init c = All-nil IsShallow

pub returns-then-not-is_shallow : goal.returns-then-not-is_shallow
returns-then-not-is_shallow c = (
  λ no. absurd cc,
  λ all.
      let yes = c.is_shallow.ensures.1 (subst IsShallow (sym c.rule-item.is) (all c.loop-rule.rule-index c.rule-item.result c.loop-rule-test.true)) in
      absurd cc,
)

pub loop-rule-preserved : goal.loop-rule-preserved
loop-rule-preserved c =
    All-more IsShallow c.args.rules.now c.loop-rule.rule-index c.rule-item.result c.loop-rule-test.true c.loop-rule.invariant
    (subst IsShallow c.rule-item.is (c.is_shallow.ensures.0 c.if-not-is_shallow.false))

pub returns : goal.returns
returns c =
    let whole = take_all c.loop-rule.rule-index c.args.rules.now (omega arith) in
    (λ _. subst (All IsShallow) whole c.loop-rule.invariant, λ _. refl)
