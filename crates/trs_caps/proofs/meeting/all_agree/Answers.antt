use Rattle.std.proofs.Common.{refl}
use Rattle.trs_defs.specs.Tree.{var}
use Rattle.trs_caps.proofs.AddedParts.{one_less_variable, no_instances, no_parts, no_entries}
use Rattle.trs_caps.proofs.meeting.all_agree.Goals as goal

pub returns-then-not-branch : goal.returns-then-not-branch
returns-then-not-branch c = (
  λ e. absurd cc,
  λ has. absurd (no_instances c.loop-there.parts c.pop_first.new.self c.in-Some.field-0-0 c.in-Some.there c.in-Some.ensures.value c.in-Some.ensures.updates c.in_ok-agree.field-0 (rw c.deref.ensures.value at c.in_ok-agree.ensures) c.if-not-branch.true (c.loop-there.invariant.1 has)),
)

pub loop-there-preserved : goal.loop-there-preserved
loop-there-preserved c =
    let less = one_less_variable c.loop-there.parts c.pop_first.new.self c.in-Some.field-0-0 c.in-Some.there c.in-Some.ensures.value c.in-Some.ensures.updates c.in_ok-agree.field-0 (rw c.deref.ensures.value at c.in_ok-agree.ensures) c.if-not-branch.false in
    (λ h. c.loop-there.invariant.0 (less.0 h), λ h. less.1 (c.loop-there.invariant.1 h))

pub returns : goal.returns
returns c = (λ _. c.loop-there.invariant.0 (var, no_parts c.loop-there.parts var (no_entries c.loop-there.parts.entries (λ l. let e = c.in_default.ensures.variant.1 l in absurd cc))), λ _. refl)
