use Rattle.std.proofs.Common.{arith, ap, sym, ◌∙◌}
use Rattle.trs_defs.specs.Tree.{app, trees}
use Rattle.trs_core.specs.View.{tree}
use Rattle.trs_caps.specs.HoledTree.{symbol, holed_trees}
use Rattle.trs_caps.specs.View.{holed, holed_all}
use Rattle.trs_caps.proofs.OrderedParts.{hole_between, part_between, next_between, all_between}
use Rattle.trs_caps.proofs.holed.Cap.+fits_in_order.Goals as goal

pub returns-in-Open-default : goal.returns-in-Open-default
returns-in-Open-default t c = λ _. hole_between (holed c.args.self.now) (tree c.args.left.now) c.args.next.now (ap holed c.in-Open-default.is-0)

pub returns-in-Own-Var : goal.returns-in-Own-Var
returns-in-Own-Var t c = λ e. let h = c.pass.ensures e in part_between (holed c.args.self.now) (tree c.args.left.now) c.in-Own-Var.v c.args.next.now c.pass.new.next (ap tree c.in-Own-Var.is-1) h.0 h.1

pub returns-in-Symbol-Var : goal.returns-in-Symbol-Var
returns-in-Symbol-Var t c = λ e.
    let h = c.pass-in-Symbol-Var.ensures e in
    part_between (holed c.args.self.now) (tree c.args.left.now) c.in-Symbol-Var.v c.args.next.now c.pass-in-Symbol-Var.new.next (ap tree c.in-Symbol-Var.is-1) h.0 h.1

pub loop-i-preserved : goal.loop-i-preserved
loop-i-preserved t c =
    let h = c.loop-i.invariant in
    record {
      same_length = h.same_length;
      left = next_between _ _ c.args.next.now c.loop-i.next c.fits_in_order.new.next c.loop-i.i c.c-item.result c.index.result.now h.same_length (omega arith) c.c-item.is c.index.ensures h.left (c.fits_in_order.ensures c.if-not-fits_in_order.false);
    }

pub returns-after-loop-i : goal.returns-after-loop-i
returns-after-loop-i t c =
    let a = c.in-Symbol-App in
    let h = c.loop-i.invariant in
    λ _. all_between c.deref-c-items.result.now c.ts.inside.items.items c.args.next.now c.loop-i.next c.loop-i.i a.f a.g (holed c.args.self.now) (tree c.args.left.now)
    (ap holed a.is-0 ∙ (ap (λ z. symbol a.f (holed_trees z)) (sym c.cs.view_is) ∙ ap (λ z. symbol a.f (holed_all z)) (sym c.deref-c-items.ensures.value)))
    (ap tree a.is-1 ∙ ap (λ z. app a.g (trees z)) (sym c.ts.view_is)) c.if-f-g.false h.same_length (omega arith) h.left
