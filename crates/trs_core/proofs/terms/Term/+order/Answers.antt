use Rattle.std.proofs.Common.{◌∙◌, ap, sym, arith}
use Rattle.trs_defs.specs.Tree.{trees}
use Rattle.trs_core.specs.View.{tree}
use Rattle.trs_core.proofs.Comparing.{applications, AreApplications, next_pair, then_first_equal}
use Rattle.trs_defs.proofs.OrderLaws.{then_unequal}
use Rattle.trs_core.proofs.terms.Term.+order.Goals.{After-then}
use Rattle.trs_core.proofs.terms.Term.+order.Goals as goal

heads : (t : _) (c : After-then t) → AreApplications (tree c.args.self.now) (tree c.args.other.now) c.ts.inside.items.items c.us.inside.items.items c.then.result
heads t c =
    let a = c.in-App-App in
    applications _ _ a.f a.g c.len.result c.len-in-App-App.result c.ts.inside.items.items c.us.inside.items.items c.cmp-in-App-App.result c.cmp-in-App-App-2.result _
    (rw (ap trees c.ts.view_is) (ap tree a.is-0)) (rw (ap trees c.us.view_is) (ap tree a.is-1))
    (omega (arith, c.len.ensures, c.ts.inside.items.ok.0)) (omega (arith, c.len-in-App-App.ensures, c.us.inside.items.ok.0)) c.cmp-in-App-App.ensures c.cmp-in-App-App-2.ensures c.then.ensures

pub returns-in_default : goal.returns-in_default
returns-in_default t c =
    let h = heads t (goal.at.returns-in_default t c).After-then in
    sym (then_unequal c.then.result _ c.in_default.not-Equal) ∙ sym h.same_order

pub loop-i-init : goal.loop-i-init
loop-i-init t c =
    let h = heads t (goal.at.loop-i-init t c).After-then in
    rw c.deref-t-items.ensures.value (h.same_length c.in-Equal.is, then_first_equal c.then.result _ _ h.same_order c.in-Equal.is)

pub returns-in_default-order : goal.returns-in_default-order
returns-in_default-order t c =
    let m = c.loop-i.invariant in
    sym (next_pair _ _ _ _ _ _ _ m.0 (omega arith) c.t-item.is c.index.ensures c.order.ensures m.1 ∙ then_unequal c.order.result _ c.in_default-order.not-Equal)

pub loop-i-preserved : goal.loop-i-preserved
loop-i-preserved t c =
    let m = c.loop-i.invariant in
    let h = next_pair _ _ _ _ _ _ _ m.0 (omega arith) c.t-item.is c.index.ensures c.order.ensures m.1 in
    (m.0, then_first_equal c.order.result _ _ h c.in-Equal-order.is)
