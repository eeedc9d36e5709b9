use Rattle.std.proofs.Common.{◌≡◌, arith, refl, ◌∙◌, length}
use Rattle.trs_defs.specs.Tree.{app}
use Rattle.trs_core.specs.View.{tree, forest}
use Rattle.rewrite_core.proofs.RedexWalk.{smaller_argument}
use Rattle.usable_rules.proofs.Found.{start_all, start_only, next_all, next_only, called_in_any, called_under, none_left, none_in_variable, in_grown, grown_twice, no_more}
use Rattle.usable_rules.proofs.marking.+mark_below.Goals as goal

pub loop-arg-init : goal.loop-arg-init
loop-arg-init t c =
    let items = c.deref-arg-items.result.now in
    let f = c.in-App.f in
    let is : tree c.args.t.now ≡ app f (forest items) = rw (c.in-App.is, ← c.args-in-App.view_is, c.deref-arg-items.ensures.value) refl in
    record {
      marked = c.in_ok-mark-in-App.ensures.marked;
      flags = c.mark.ensures.flags;
      grown = c.in_ok-mark-in-App.ensures.grown;
      all = start_all f (length c.args.flags.now.items) (tree c.args.t.now) (forest items) c.mark.new.found.items is c.in_ok-mark-in-App.ensures.all;
      only = start_only f (tree c.args.t.now) (forest items) c.args.found.now.items c.mark.new.found.items is c.in_ok-mark-in-App.ensures.only;
    }

pub mark_below-requires : goal.mark_below-requires
mark_below-requires t c =
    let items = c.deref-arg-items.result.now in
    let is : tree c.args.t.now ≡ app c.in-App.f (forest items) = rw (c.in-App.is, ← c.args-in-App.view_is, c.deref-arg-items.ensures.value) refl in
    let smaller = smaller_argument items c.loop-arg.arg-index c.in-App.f (tree c.args.t.now) c.arg-item.result is c.loop-arg-test.true c.arg-item.is in
    (omega (arith, smaller, c.decreases), c.loop-arg.invariant.marked)

pub loop-arg-preserved : goal.loop-arg-preserved
loop-arg-preserved t c =
    let items = c.deref-arg-items.result.now in
    let i = c.loop-arg.arg-index in
    let part = c.arg-item.result in
    let old = c.args.found.now.items in
    let found = c.loop-arg.found.items in
    let new = c.mark_below.new.found.items in
    let n = length c.args.flags.now.items in
    let is : tree c.args.t.now ≡ app c.in-App.f (forest items) = rw (c.in-App.is, ← c.args-in-App.view_is, c.deref-arg-items.ensures.value) refl in
    let e = c.in_ok-mark_below-in-App.ensures in
    record {
      marked = e.marked;
      flags = e.flags ∙ c.loop-arg.invariant.flags;
      grown = grown_twice old found new e.grown c.loop-arg.invariant.grown;
      all = λ g call low. next_all items i g n part found new c.loop-arg-test.true c.arg-item.is (in_grown found new g e.grown) (λ called low. e.all g called (rw c.loop-arg.invariant.flags low)) low
          (c.loop-arg.invariant.all g call low);
      only = next_only old found new e.only (λ g call. called_under c.in-App.f g (tree c.args.t.now) (forest items) is
          (called_in_any items i g part c.loop-arg-test.true c.arg-item.is call)) c.loop-arg.invariant.only;
    }

pub returns-after-loop-arg-clause-all : goal.returns-after-loop-arg-clause-all
returns-after-loop-arg-clause-all t c g call low =
    none_left c.deref-arg-items.result.now c.loop-arg.arg-index g c.loop-arg.found.items c.loop-arg-test.false (c.loop-arg.invariant.all g call low)

pub returns-in-Var-clause-all : goal.returns-in-Var-clause-all
returns-in-Var-clause-all t c g call low = absurd (none_in_variable (tree c.args.t.now) c.in-Var.field-0 g (rw (c.in-Var.is) refl) call)

pub returns-in-Var-clause-grown : goal.returns-in-Var-clause-grown
returns-in-Var-clause-grown t c = no_more c.args.found.now.items
