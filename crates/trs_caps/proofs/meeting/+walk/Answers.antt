use Rattle.std.proofs.Common.{arith, ap, sym, ◌∙◌}
use Rattle.trs_defs.specs.Tree.{app, trees}
use Rattle.trs_core.specs.View.{tree}
use Rattle.trs_caps.specs.HoledTree.{symbol, holed_trees}
use Rattle.trs_caps.specs.PartLists.{parts_at}
use Rattle.trs_caps.specs.View.{holed}
use Rattle.trs_caps.proofs.AddedParts.{hole_walks, unlike_heads, next_walk, no_next_walk, no_more_walks}
use Rattle.trs_caps.proofs.meeting.+walk.Goals.{then-f-g-via-then-f-g, then-f-g-via-else-f-g+then-len}
use Rattle.trs_caps.proofs.meeting.+walk.Goals as goal

pub returns-in-Open-default : goal.returns-in-Open-default
returns-in-Open-default t c = hole_walks (parts_at c.args.parts.now) (holed c.args.cap.now) (tree c.args.left.now) (ap holed c.in-Open-default.is-0)

pub returns-then-f-g : goal.returns-then-f-g
returns-then-f-g t c =
    let a = c.in-Symbol-App in
    unlike_heads (parts_at c.args.parts.now) (holed c.args.cap.now) (tree c.args.left.now) c.cs.inside.items.items c.ts.inside.items.items a.f a.g
    (ap holed a.is-0 ∙ ap (λ z. symbol a.f (holed_trees z)) (sym c.cs.view_is)) (ap tree a.is-1 ∙ ap (λ z. app a.g (trees z)) (sym c.ts.view_is)) (elim c.then-f-g.branch [
      | then-f-g-via-then-f-g w ↦ λ same l. w.if-f-g.true same
      | then-f-g-via-else-f-g+then-len w ↦ λ same l. w.if-len.true (omega (arith, c.cs.inside.items.ok.0, c.ts.inside.items.ok.0))
    ])

pub returns-then-not-branch : goal.returns-then-not-branch
returns-then-not-branch t c =
    let a = c.in-Symbol-App in
    let h = c.loop-i.invariant in
    rw (a.is-0, a.is-1, ← c.cs.view_is, ← c.ts.view_is, ← c.deref-c-items.ensures.value) (no_next_walk (parts_at c.args.parts.now) (parts_at c.loop-i.parts) _ _ c.loop-i.i a.f a.g c.c-item.result c.index.result.now h.same_length (omega arith) c.c-item.is c.index.ensures h.same_fits (rw c.if-not-branch.true at c.in_ok-walk-in-Symbol-App.ensures))

pub loop-i-preserved : goal.loop-i-preserved
loop-i-preserved t c =
    let h = c.loop-i.invariant in
    record { same_length = h.same_length; same_fits = next_walk (parts_at c.args.parts.now) (parts_at c.loop-i.parts) (parts_at c.walk.new.parts) _ _ c.loop-i.i c.c-item.result c.index.result.now h.same_length (omega arith) c.c-item.is c.index.ensures h.same_fits (rw c.if-not-branch.false at c.in_ok-walk-in-Symbol-App.ensures) }

pub returns-after-loop-i : goal.returns-after-loop-i
returns-after-loop-i t c =
    let a = c.in-Symbol-App in
    let h = c.loop-i.invariant in
    rw (a.is-0, a.is-1, ← c.cs.view_is, ← c.ts.view_is, ← c.deref-c-items.ensures.value) (no_more_walks (parts_at c.args.parts.now) (parts_at c.loop-i.parts) _ _ c.loop-i.i a.f a.g c.if-f-g.false h.same_length (omega arith) h.same_fits)
