use Rattle.std.proofs.Common.{◌≡◌, Some, slice_get, slice_index}
use Rattle.trs_defs.proofs.Members.{in_of_get}
use Rattle.term_pool.proofs.RootRules.{rule_read, one_more_not, none_at_end}
use Rattle.trs_caps.specs.View.{holed}
use Rattle.trs_caps.proofs.MetRules.{Meets, meets_none}
use Rattle.trs_caps.proofs.capping.meets_some.Goals.{After-index-rules-k}
use Rattle.trs_caps.proofs.capping.meets_some.Goals as goal

-- the rule of the next number
here : (c : After-index-rules-k) → slice_get c.rules-rules.result.now (slice_index c.with_root-k-items.result.now c.loop-k.k-index) ≡ Some c.index-rules-k.result
here c =
    rule_read c.args.by_root.now.rules c.rules-rules.result.now c.with_root-k-items.result.now c.loop-k.k-index c.index-rules-k.result c.rules-rules.ensures.rules c.with_root-k-items.ensures.within
    c.loop-k-test.true c.index-rules-k.is

pub meets_rule-requires-clause-rule : goal.meets_rule-requires-clause-rule
meets_rule-requires-clause-rule c = rw (← c.rules-rules.ensures.rules) (here (goal.at.meets_rule-requires-clause-rule c).After-index-rules-k)

pub returns-then-branch : goal.returns-then-branch
returns-then-branch c =
    let rule = c.index-rules-k.result in
    let there = rw c.rules-rules.ensures.rules at (here (goal.at.returns-then-branch c).After-index-rules-k) in
    let meets : Meets (holed c.args.cap.now) rule = c.in_ok-meets_rule.ensures.0 c.if-branch.true in
    (rule.left, rule.right, in_of_get c.args.by_root.now.rules (slice_index c.with_root-k-items.result.now c.loop-k.k-index) rule there, meets)

pub loop-k-preserved : goal.loop-k-preserved
loop-k-preserved c =
    let rule = c.index-rules-k.result in
    let unmet : Meets (holed c.args.cap.now) rule → ⊥ = λ m. let e = c.in_ok-meets_rule.ensures.1 m in absurd (cc (e, c.if-branch.false)) in
    one_more_not (Meets (holed c.args.cap.now)) c.rules-rules.result.now c.with_root-k-items.result.now c.loop-k.k-index rule c.loop-k-test.true (here (goal.at.loop-k-preserved c).After-index-rules-k) unmet c.loop-k.invariant

pub returns : goal.returns
returns c =
    let none = none_at_end (Meets (holed c.args.cap.now)) c.args.f c.args.by_root.now.rules c.rules-rules.result.now c.with_root-k-items.result.now c.loop-k.k-index c.rules-rules.ensures.rules c.with_root-k-items.ensures.numbers
    c.loop-k-test.false c.loop-k.invariant in
    meets_none c.args.by_root.now (holed c.args.cap.now) c.args.f c.requires.root c.rules-rules.ensures.valid (rw c.rules-rules.ensures.rules at none)
