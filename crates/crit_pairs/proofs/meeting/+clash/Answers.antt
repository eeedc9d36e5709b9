use Rattle.std.proofs.Common.{[], arith, ap, length}
use Rattle.trs_defs.specs.Tree.{trees}
use Rattle.trs_core.specs.View.{tree}
use Rattle.rewrite_core.proofs.RedexWalk.{applied}
use Rattle.crit_pairs.proofs.Bindings.{solves_nothing, clash, arguments_apart}
use Rattle.crit_pairs.proofs.meeting.+clash.Goals.{then-f-g-via-then-f-g, then-f-g-via-else-f-g+then-len}
use Rattle.crit_pairs.proofs.meeting.+clash.Goals as goal

pub returns-then-f-g : goal.returns-then-f-g
returns-then-f-g t c =
    let a = c.in-App-App in
    λ _ θ. clash [] a.f a.g c.fs.inside.items.items c.gs.inside.items.items (tree c.args.a.now) (tree c.args.b.now)
    (applied c.fs.inside.items.items a.f _ (tree c.args.a.now) (ap trees c.fs.view_is) (ap tree a.is-0)) (applied c.gs.inside.items.items a.g _ (tree c.args.b.now) (ap trees c.gs.view_is) (ap tree a.is-1))
    (elim c.then-f-g.branch [
      | then-f-g-via-then-f-g w ↦ λ same l. w.if-f-g.true same
      | then-f-g-via-else-f-g+then-len w ↦ λ same l. w.if-len.true (omega (arith, l, w.len.ensures, w.len-else-f-g.ensures, c.fs.inside.items.ok.0, c.gs.inside.items.ok.0))
    ]) θ (solves_nothing θ)

pub loop-i-init : goal.loop-i-init
loop-i-init t c = omega (arith, c.if-len.false, c.len.ensures, c.len-else-f-g.ensures, c.fs.inside.items.ok.0, c.gs.inside.items.ok.0, ap length c.deref-x-items.ensures.value)

pub returns-then-clash : goal.returns-then-clash
returns-then-clash t c =
    let xs = c.deref-x-items.result.now in
    λ _. arguments_apart xs c.gs.inside.items.items c.loop-i.i c.x-item.result c.index.result.now c.in-App-App.f c.in-App-App.g (tree c.args.a.now) (tree c.args.b.now)
    (applied xs c.in-App-App.f _ (tree c.args.a.now) (rw c.deref-x-items.ensures.value (ap trees c.fs.view_is)) (ap tree c.in-App-App.is-0))
    (applied c.gs.inside.items.items c.in-App-App.g _ (tree c.args.b.now) (ap trees c.gs.view_is) (ap tree c.in-App-App.is-1))
    c.loop-i-test.true c.loop-i.invariant c.x-item.is c.index.ensures (c.clash.ensures c.if-clash.true)
