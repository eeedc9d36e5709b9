use Rattle.std.proofs.Common.{◌≢◌}
use Rattle.std.proofs.lemmas.Result.{err_from_is_err_and}
use Rattle.trs_core.specs.SystemLimits.{IsWithinLimits}
use Rattle.trs_core.specs.Faults.{IsFirstFault}
use Rattle.trs_core.specs.Valid.{system}
use Rattle.trs_core.specs.declared.faults.TrsFault.TheVariants.{OutOfMemory}
use Rattle.trs_core.proofs.RuleLists.{more_rules, all_rules, no_fault, first_fault, valid_no_fault, only_memory}
use Rattle.trs_core.proofs.rules.Trs.new.Goals.{After-deref-rule-items, After-drop-arities-in_err-check_rule}
use Rattle.trs_core.proofs.rules.Trs.new.Goals as goal

limits : (c : After-deref-rule-items) → IsWithinLimits (system c.args.arities.items c.deref-rule-items.result.now)
limits c =
    rw (c.deref-rule-items.ensures.value, ← c.deref-3.ensures.value, ← c.deref-4.ensures.value)
    (c.are_within_limits.ensures.0 c.if-not-are_within_limits.false)

first : (c : After-drop-arities-in_err-check_rule) → c.in_err-check_rule.field-0.0 ≢ OutOfMemory
    → IsFirstFault (system c.args.arities.items c.args.rules.items) c.in_err-check_rule.field-0.0
first c some =
    rw (← c.deref-rule-items.ensures.value)
    (first_fault _ _ c.loop-i.i c.rule-item.result c.loop-i.invariant c.loop-i-test.true c.rule-item.is
    (limits (goal.at.returns-in_err-check_rule-clause-fault c).After-deref-rule-items) c.in_err-check_rule.field-0.0
    (rw c.deref-in-loop-i.ensures.value at c.in_err-check_rule.ensures.fault) some)

pub returns-in_err-check_rule-clause-fault : goal.returns-in_err-check_rule-clause-fault
returns-in_err-check_rule-clause-fault c =
    let p = err_from_is_err_and c.from_residual.result c.from_residual.ensures.1 in
    rw (p.1, p.2) (first c)

pub returns-in_err-check_rule-clause-only : goal.returns-in_err-check_rule-clause-only
returns-in_err-check_rule-clause-only c =
    let p = err_from_is_err_and c.from_residual.result c.from_residual.ensures.1 in
    rw (p.1, p.2) (λ valid. only_memory _ valid c.in_err-check_rule.field-0.0 (first c))

pub returns-then-are_plain-clause-faultless : goal.returns-then-are_plain-clause-faultless
returns-then-are_plain-clause-faultless c =
    rw (← c.deref.ensures.value, ← c.deref-2.ensures.value) (valid_no_fault _ (c.are_plain.ensures c.if-are_plain.true))

pub loop-i-preserved : goal.loop-i-preserved
loop-i-preserved c =
    more_rules _ _ c.loop-i.i _ c.loop-i.invariant c.loop-i-test.true c.rule-item.is
    (rw c.deref-in-loop-i.ensures.value at c.in_ok-check_rule.ensures.faultless)

pub invariant_of-result-2 : goal.invariant_of-result-2
invariant_of-result-2 c =
    rw (← c.deref-rule-items.ensures.value)
    (all_rules _ _ c.loop-i.i c.loop-i.invariant c.loop-i-test.false (limits (goal.at.invariant_of-result-2 c).After-deref-rule-items))

pub returns-clause-faultless : goal.returns-clause-faultless
returns-clause-faultless c =
    rw (← c.deref-rule-items.ensures.value)
    (no_fault _ _ c.loop-i.i c.loop-i.invariant c.loop-i-test.false (limits (goal.at.returns-clause-faultless c).After-deref-rule-items))

pub returns-clause-within : goal.returns-clause-within
returns-clause-within c =
    rw (← c.deref-rule-items.ensures.value)
    (all_rules _ _ c.loop-i.i c.loop-i.invariant c.loop-i-test.false (limits (goal.at.returns-clause-within c).After-deref-rule-items))
