use Rattle.std.proofs.Common.{◌≡◌, ◌⊎◌, refl, sym, ◌∙◌, subst, length}
use Rattle.trs_defs.specs.Member.{In}
use Rattle.trs_core.specs.View.{forest}
use Rattle.usable_rules.specs.Worklist.{IsCalledInAny}
use Rattle.usable_rules.proofs.Found.{next_all, next_only, called_in_any, none_left, in_grown}
use Rattle.usable_rules.proofs.closing.mark_arguments.Goals as goal

pub loop-arg-preserved : goal.loop-arg-preserved
loop-arg-preserved c =
    let items = c.deref-arg-items.result.now in
    let i = c.loop-arg.arg-index in
    let part = c.arg-item.result in
    let old = c.args.found.now.items in
    let found = c.loop-arg.found.items in
    let new = c.mark_below.new.found.items in
    let n = length c.args.flags.now.items in
    let e = c.in_ok-mark_below.ensures in
    record {
      marked = e.marked;
      flags = c.mark_below.ensures.flags ∙ c.loop-arg.invariant.flags;
      kept = λ g h. in_grown found new g e.grown (c.loop-arg.invariant.kept g h);
      all = λ g call low. next_all items i g n part found new c.loop-arg-test.true c.arg-item.is (in_grown found new g e.grown) (λ called low. e.all g called (rw c.loop-arg.invariant.flags low)) low
          (c.loop-arg.invariant.all g call low);
      only = next_only old found new e.only (λ g call. called_in_any items i g part c.loop-arg-test.true c.arg-item.is call) c.loop-arg.invariant.only;
    }

pub returns-clause-all : goal.returns-clause-all
returns-clause-all c g call low =
    let is : c.args.side.now.args ≡ forest c.deref-arg-items.result.now = rw (← c.side.view_is, ← c.args-2.view_is, c.deref-arg-items.ensures.value) refl in
    let call_in : IsCalledInAny (forest c.deref-arg-items.result.now) g = subst (λ ts. IsCalledInAny ts g) is call in
    none_left c.deref-arg-items.result.now c.loop-arg.arg-index g c.loop-arg.found.items c.loop-arg-test.false (c.loop-arg.invariant.all g call_in low)

pub returns-clause-only : goal.returns-clause-only
returns-clause-only c g i =
    let is : c.args.side.now.args ≡ forest c.deref-arg-items.result.now = rw (← c.side.view_is, ← c.args-2.view_is, c.deref-arg-items.ensures.value) refl in
    subst (λ ts. In g c.args.found.now.items ⊎ IsCalledInAny ts g) (sym is) (c.loop-arg.invariant.only g i)
