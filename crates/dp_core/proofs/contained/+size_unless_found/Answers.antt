use Rattle.std.proofs.Common.{◌≡◌, ◌+◌, drop, refl, sym}
use Rattle.trs_defs.specs.Size.{size_of, size_of_all}
use Rattle.trs_defs.specs.Tree.{app}
use Rattle.trs_core.specs.View.{tree, forest}
use Rattle.dp_core.proofs.Subterms.{in_one, sub_under, sub_same, sub_cases, none_in, not_in_first, size_left, sum_kept}
use Rattle.dp_core.proofs.contained.+size_unless_found.Goals as goal

pub returns-in_default-clause-found : goal.returns-in_default-clause-found
returns-in_default-clause-found t c e =
    let is : tree c.args.s.now ≡ app c.in-App.field-0 (forest c.deref-arg-items.result.now) = rw (c.in-App.is, ← c.args-in-App.view_is, c.deref-arg-items.ensures.value) refl in
    sub_under (tree c.args.t.now) (tree c.args.s.now) c.in-App.field-0 (forest c.deref-arg-items.result.now) is
    (in_one (tree c.args.t.now) c.deref-arg-items.result.now c.loop-arg.arg-index c.arg-item.result c.loop-arg-test.true c.arg-item.is (c.in_default.ensures.found refl))

pub loop-arg-preserved : goal.loop-arg-preserved
loop-arg-preserved t c =
    let items = c.deref-arg-items.result.now in
    let i = c.loop-arg.arg-index in
    let part = c.in-Some.ensures.size c.in-Some.part refl in
    let sum = c.saturating_add-total.ensures in
    let left = size_left items i c.arg-item.result c.loop-arg-test.true c.arg-item.is in
    let before = c.loop-arg.invariant.total in
    let lt = before.0 in
    let is = before.1 in
    record {
      total = sum_kept c.loop-arg.total c.in-Some.part c.saturating_add-total.result (size_of (tree c.arg-item.result)) (size_of_all (forest (drop i items))) (size_of_all (forest (drop (i + 1) items))) (size_of (tree c.args.s.now)) lt sum part left is;
      rest = λ p. not_in_first (tree c.args.t.now) items i c.arg-item.result c.loop-arg-test.true c.arg-item.is (c.in-Some.ensures.absent c.in-Some.part refl) (c.loop-arg.invariant.rest p);
    }

pub returns-in-Var-clause-found : goal.returns-in-Var-clause-found
returns-in-Var-clause-found t c e = sub_same (tree c.args.t.now) (tree c.args.s.now) (c.same.ensures.0 (c.none_if.ensures.found e))

pub returns-after-loop-arg-clause-found : goal.returns-after-loop-arg-clause-found
returns-after-loop-arg-clause-found t c e = sub_same (tree c.args.t.now) (tree c.args.s.now) (c.is_same.ensures.0 (c.none_if-in-App.ensures.found e))

pub returns-after-loop-arg-clause-absent : goal.returns-after-loop-arg-clause-absent
returns-after-loop-arg-clause-absent t c n e p =
    let items = c.deref-arg-items.result.now in
    let is : tree c.args.s.now ≡ app c.in-App.field-0 (forest c.deref-arg-items.result.now) = rw (c.in-App.is, ← c.args-in-App.view_is, c.deref-arg-items.ensures.value) refl in
    sub_cases ⊥ (tree c.args.t.now) (tree c.args.s.now) c.in-App.field-0 (forest items) is p
    (λ same. c.none_if-in-App.ensures.absent n e (c.is_same.ensures.1 (sym same)))
    (λ q. none_in (tree c.args.t.now) items c.loop-arg.arg-index c.loop-arg-test.false (c.loop-arg.invariant.rest q))
