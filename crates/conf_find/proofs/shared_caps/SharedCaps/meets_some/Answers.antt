use Rattle.std.proofs.Common.{◌≡◌, Some, slice_get, slice_index}
use Rattle.trs_defs.proofs.Members.{in_of_get}
use Rattle.term_pool.proofs.RootRules.{rule_read, one_more_not, none_at_end}
use Rattle.trs_caps.proofs.MetRules.{Meets, meets_none}
use Rattle.conf_find.specs.SharedCaps.{cap_at}
use Rattle.conf_find.proofs.shared_caps.SharedCaps.meets_some.Goals.{After-index-rules-n}
use Rattle.conf_find.proofs.shared_caps.SharedCaps.meets_some.Goals as goal

-- the rule of the next number
here : (c : After-index-rules-n) → slice_get c.rules-rules.result.now (slice_index c.with_root-n-items.result.now c.loop-n.n-index) ≡ Some c.index-rules-n.result
here c =
    rule_read c.args.by_root.now.rules c.rules-rules.result.now c.with_root-n-items.result.now c.loop-n.n-index c.index-rules-n.result c.rules-rules.ensures.rules c.with_root-n-items.ensures.within
    c.loop-n-test.true c.index-rules-n.is

pub returns-then-branch : goal.returns-then-branch
returns-then-branch c =
    let rule = c.index-rules-n.result in
    let there = rw c.rules-rules.ensures.rules at (here (goal.at.returns-then-branch c).After-index-rules-n) in
    let meets : Meets (cap_at c.args.self.now c.args.k) rule = c.in_ok-meets_rule.ensures.0 c.if-branch.true in
    (rule.left, rule.right, in_of_get c.args.by_root.now.rules (slice_index c.with_root-n-items.result.now c.loop-n.n-index) rule there, meets)

pub loop-n-preserved : goal.loop-n-preserved
loop-n-preserved c =
    let rule = c.index-rules-n.result in
    let cap = cap_at c.args.self.now c.args.k in
    one_more_not (Meets cap) c.rules-rules.result.now c.with_root-n-items.result.now c.loop-n.n-index rule c.loop-n-test.true (here (goal.at.loop-n-preserved c).After-index-rules-n)
    (λ m. (let e = c.in_ok-meets_rule.ensures.1 m in absurd (cc (e, c.if-branch.false)))) c.loop-n.invariant

pub returns : goal.returns
returns c =
    let cap = cap_at c.args.self.now c.args.k in
    let none = none_at_end (Meets cap) c.args.f c.args.by_root.now.rules c.rules-rules.result.now c.with_root-n-items.result.now c.loop-n.n-index c.rules-rules.ensures.rules c.with_root-n-items.ensures.numbers
    c.loop-n-test.false c.loop-n.invariant in
    meets_none c.args.by_root.now cap c.args.f c.requires.root c.rules-rules.ensures.valid (rw c.rules-rules.ensures.rules at none)
