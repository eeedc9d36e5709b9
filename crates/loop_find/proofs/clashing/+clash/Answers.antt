use Rattle.std.proofs.Common.{arith, ap, length, refl}
use Rattle.std.proofs.lemmas.Option.{slice_get_read}
use Rattle.trs_defs.specs.Tree.{trees}
use Rattle.trs_core.specs.View.{tree}
use Rattle.rewrite_core.proofs.RedexWalk.{applied}
use Rattle.loop_find.proofs.Recurrences.{other_root, other_argument}
use Rattle.loop_find.proofs.clashing.+clash.Goals.{then-f-g-via-then-f-g, then-f-g-via-else-f-g+then-len}
use Rattle.loop_find.proofs.clashing.+clash.Goals as goal

pub returns-then-f-g : goal.returns-then-f-g
returns-then-f-g t c = λ _.
    let a = c.in-App-App in
    other_root a.f a.g c.fs.inside.items.items c.gs.inside.items.items (tree c.args.a.now) (tree c.args.b.now)
    (applied c.fs.inside.items.items a.f _ (tree c.args.a.now) (ap trees c.fs.view_is) (ap tree a.is-0)) (applied c.gs.inside.items.items a.g _ (tree c.args.b.now) (ap trees c.gs.view_is) (ap tree a.is-1))
    (elim c.then-f-g.branch [
      | then-f-g-via-then-f-g w ↦ λ same l. w.if-f-g.true same
      | then-f-g-via-else-f-g+then-len w ↦ λ same l. w.if-len.true (omega (arith, l, w.len.ensures, w.len-else-f-g.ensures, c.fs.inside.items.ok.0, c.gs.inside.items.ok.0))
    ])

pub loop-i-init : goal.loop-i-init
loop-i-init t c = record {
  same_length = omega (arith, c.if-len.false, c.len.ensures, c.len-else-f-g.ensures, c.fs.inside.items.ok.0, c.gs.inside.items.ok.0, ap length c.deref-x-items.ensures.value);
}

pub returns-then-clash : goal.returns-then-clash
returns-then-clash t c = λ _.
    let xs = c.deref-x-items.result.now in
    let ys = c.gs.inside.items.items in
    other_argument c.in-App-App.f c.in-App-App.g xs ys c.loop-i.i c.x-item.result c.index.result.now (tree c.args.a.now) (tree c.args.b.now)
    (applied xs c.in-App-App.f _ (tree c.args.a.now) (rw c.deref-x-items.ensures.value (ap trees c.fs.view_is)) (ap tree c.in-App-App.is-0))
    (applied ys c.in-App-App.g _ (tree c.args.b.now) (ap trees c.gs.view_is) (ap tree c.in-App-App.is-1))
    (slice_get_read xs (length xs) c.loop-i.i c.x-item.result refl c.loop-i-test.true c.x-item.is)
    (slice_get_read ys (length ys) c.loop-i.i c.index.result.now refl (omega (arith, c.loop-i-test.true, c.loop-i.invariant.same_length)) c.index.ensures)
    (c.if-clash.ensures refl)
