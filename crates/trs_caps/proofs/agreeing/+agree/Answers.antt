use Rattle.std.proofs.Common.{◌<◌, ◌≤◌, length, ap, arith, refl}
use Rattle.trs_caps.specs.Columns.{LeavesHoles, column_of, total}
use Rattle.trs_caps.specs.PartLists.{caps_of}
use Rattle.trs_caps.specs.View.{holed}
use Rattle.trs_caps.proofs.Rows.{few_have, root_of, own_has, all_hole_has, columns_have, next_column, no_column, smaller_column}
use Rattle.trs_caps.proofs.agreeing.+agree.Goals as goal

pub returns-then-caps-lt2 : goal.returns-then-caps-lt2
returns-then-caps-lt2 t c = (λ _. few_have c.args.caps.now c.if-caps-lt2.true, λ _. refl)

pub agree-requires-in-loop-i : goal.agree-requires-in-loop-i
agree-requires-in-loop-i t c =
    let inside : c.loop-i.i < length c.parts.inside.items.items = omega (arith, c.loop-i-test.true, c.len-i-end.ensures, c.parts.inside.items.ok.0) in
    let leaves : LeavesHoles (column_of c.loop-i.i (caps_of c.args.caps.now)) (caps_of c.deref.result.now) = rw (← c.deref.ensures.value) at c.in_ok-there-in-Symbol.ensures in
    let smaller : total (caps_of c.deref.result.now) < total (caps_of c.args.caps.now) =
    smaller_column c.args.caps.now c.index-caps-0.result (omega arith) c.index-caps-0.is (c.are_alike.ensures.alike c.if-not-are_alike.false) c.in-Symbol.field-0 c.parts.inside.items.items (root_of _ _ _ _ c.in-Symbol.is c.parts.view_is) c.loop-i.i (caps_of c.deref.result.now) inside leaves in
    (omega (arith, smaller, c.decreases), tt)

pub returns-then-not-branch : goal.returns-then-not-branch
returns-then-not-branch t c =
    let leaves : LeavesHoles (column_of c.loop-i.i (caps_of c.args.caps.now)) (caps_of c.deref.result.now) = rw (← c.deref.ensures.value) at c.in_ok-there-in-Symbol.ensures in (
      λ e. absurd cc,
      λ whole. absurd (no_column c.args.caps.now c.index-caps-0.result (omega arith) c.index-caps-0.is (c.are_alike.ensures.alike c.if-not-are_alike.false) c.in-Symbol.field-0 c.parts.inside.items.items (root_of _ _ _ _ c.in-Symbol.is c.parts.view_is) c.loop-i.i (caps_of c.deref.result.now) c.in_ok-agree-in-Symbol.field-0 leaves c.in_ok-agree-in-Symbol.ensures c.if-not-branch.true whole),
    )

pub loop-i-preserved : goal.loop-i-preserved
loop-i-preserved t c =
    let leaves : LeavesHoles (column_of c.loop-i.i (caps_of c.args.caps.now)) (caps_of c.deref.result.now) = rw (← c.deref.ensures.value) at c.in_ok-there-in-Symbol.ensures in
    next_column c.args.caps.now c.index-caps-0.result (omega arith) c.index-caps-0.is (c.are_alike.ensures.alike c.if-not-are_alike.false) c.in-Symbol.field-0 c.parts.inside.items.items (root_of _ _ _ _ c.in-Symbol.is c.parts.view_is) c.loop-i.i (caps_of c.deref.result.now) c.in_ok-agree-in-Symbol.field-0 leaves c.in_ok-agree-in-Symbol.ensures c.if-not-branch.false c.loop-i.invariant

pub returns-in-Open : goal.returns-in-Open
returns-in-Open t c = all_hole_has c.args.caps.now c.index-caps-0.result (omega arith) c.index-caps-0.is (c.are_alike.ensures.alike c.if-not-are_alike.false) c.agree.result (ap holed c.in-Open.is) c.agree.ensures

pub returns-in-Own : goal.returns-in-Own
returns-in-Own t c = (λ _. own_has c.args.caps.now c.index-caps-0.result (omega arith) c.index-caps-0.is (c.are_alike.ensures.alike c.if-not-are_alike.false) c.in-Own.field-0 (ap holed c.in-Own.is), λ _. refl)

pub returns-after-loop-i : goal.returns-after-loop-i
returns-after-loop-i t c =
    let past : length c.parts.inside.items.items ≤ c.loop-i.i = omega (arith, c.loop-i-test.false, c.len-i-end.ensures, c.parts.inside.items.ok.0) in
    (λ _. columns_have c.args.caps.now c.index-caps-0.result (omega arith) c.index-caps-0.is (c.are_alike.ensures.alike c.if-not-are_alike.false) c.in-Symbol.field-0 c.parts.inside.items.items (root_of _ _ _ _ c.in-Symbol.is c.parts.view_is) c.loop-i.i past c.loop-i.invariant, λ _. refl)
