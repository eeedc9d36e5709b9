use Rattle.std.proofs.Common.{◌≡◌, arith, ap}
use Rattle.std.proofs.lemmas.List.{drop_all}
use Rattle.trs_defs.specs.Tree.{app, trees}
use Rattle.trs_defs.proofs.ArgumentLists.{cell}
use Rattle.trs_core.specs.View.{tree, forest}
use Rattle.rewrite_core.proofs.RedexWalk.{applied, smaller_argument}
use Rattle.loop_find.proofs.QuickUnifiers.{unites_part_ok, unites_goes_on, unites_ends, argument_variable}
use Rattle.loop_find.proofs.binding.+bind.Goals as goal

pub bind-requires : goal.bind-requires
bind-requires t c =
    let items = c.deref-t-items.result.now in
    let is : tree c.args.part.now ≡ app c.in-App-App.f (forest items) = applied items c.in-App-App.f _ (tree c.args.part.now) (rw c.deref-t-items.ensures.value (ap trees c.ts.view_is)) (ap tree c.in-App-App.is-0) in
    let smaller = smaller_argument items c.loop-i.i c.in-App-App.f (tree c.args.part.now) c.t-item.result is c.loop-i-test.true c.t-item.is in
    (omega (arith, smaller, c.decreases), λ v h. c.requires v (argument_variable items c.loop-i.i c.in-App-App.f (tree c.args.part.now) c.t-item.result is c.loop-i-test.true c.t-item.is v h))

pub loop-i-preserved : goal.loop-i-preserved
loop-i-preserved t c =
    let items = c.deref-t-items.result.now in
    let others = c.ps.inside.items.items in
    record {
      same_length = c.loop-i.invariant.same_length;
      unites = unites_goes_on (tree c.args.part.now) (tree c.args.pattern.now) (tree c.t-item.result) (tree c.index.result.now) c.args.found.now.items c.loop-i.found.items c.bind.new.found.items _ _ _ _
          (ap forest (cell items c.loop-i.i c.t-item.result c.loop-i-test.true c.t-item.is))
          (ap forest (cell others c.loop-i.i c.index.result.now (omega (arith, c.loop-i-test.true, c.loop-i.invariant.same_length)) c.index.ensures))
          c.loop-i.invariant.unites (rw c.if-not-branch.false at c.in_ok-bind-in-App-App.ensures);
    }

pub returns-in-Var-App : goal.returns-in-Var-App
returns-in-Var-App t c = unites_part_ok (tree c.args.part.now) (tree c.args.pattern.now) c.in-Var-App.y c.args.found.now.items c.add_binding-in-Var-App.new.found.items (ap tree c.in-Var-App.is-0) c.requires c.add_binding-in-Var-App.result c.add_binding-in-Var-App.ensures

pub returns-after-loop-i : goal.returns-after-loop-i
returns-after-loop-i t c =
    unites_ends (tree c.args.part.now) (tree c.args.pattern.now) c.args.found.now.items c.loop-i.found.items _ _
    (ap forest (drop_all c.loop-i.i c.deref-t-items.result.now (omega (arith, c.loop-i-test.false))))
    (ap forest (drop_all c.loop-i.i c.ps.inside.items.items (omega (arith, c.loop-i-test.false, c.loop-i.invariant.same_length)))) c.loop-i.invariant.unites
