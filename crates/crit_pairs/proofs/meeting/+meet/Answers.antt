use Rattle.std.proofs.Common.{◌≡◌, ◌∙◌, sym, arith, ap, length}
use Rattle.trs_defs.specs.Tree.{app, trees}
use Rattle.trs_core.specs.View.{tree, forest}
use Rattle.rewrite_core.proofs.RedexWalk.{applied}
use Rattle.crit_pairs.proofs.Bindings.{clash, next_meets, next_follows, never_meets, all_meet, all_follow}
use Rattle.crit_pairs.proofs.meeting.+meet.Goals.{meet-then-f-g-via-then-f-g, meet-then-f-g-via-else-f-g+then-len, meet-After-deref-x-items, meet-in-Met, meet-in-Unclear}
use Rattle.crit_pairs.proofs.meeting.+meet.Goals as goal

pub meet-returns-then-f-g : goal.meet-returns-then-f-g
meet-returns-then-f-g t c =
    let a = c.in-App-App in
    clash c.args.bindings.now.list.items a.f a.g c.fs.inside.items.items c.gs.inside.items.items (tree c.args.a.now) (tree c.args.b.now)
    (applied c.fs.inside.items.items a.f _ (tree c.args.a.now) (ap trees c.fs.view_is) (ap tree a.is-0)) (applied c.gs.inside.items.items a.g _ (tree c.args.b.now) (ap trees c.gs.view_is) (ap tree a.is-1))
    (elim c.then-f-g.branch [
      | meet-then-f-g-via-then-f-g w ↦ λ same l. w.if-f-g.true same
      | meet-then-f-g-via-else-f-g+then-len w ↦ λ same l. w.if-len.true (omega (arith, l, w.len.ensures, w.len-else-f-g.ensures, c.fs.inside.items.ok.0, c.gs.inside.items.ok.0))
    ])

left : (t : _) (c : meet-After-deref-x-items t) → tree c.args.a.now ≡ app c.in-App-App.f (forest c.deref-x-items.result.now)
left t c = applied c.deref-x-items.result.now c.in-App-App.f _ (tree c.args.a.now) (rw c.deref-x-items.ensures.value (ap trees c.fs.view_is)) (ap tree c.in-App-App.is-0)

right : (t : _) (c : meet-After-deref-x-items t) → tree c.args.b.now ≡ app c.in-App-App.g (forest c.gs.inside.items.items)
right t c = applied c.gs.inside.items.items c.in-App-App.g _ (tree c.args.b.now) (ap trees c.gs.view_is) (ap tree c.in-App-App.is-1)

pub meet-loop-i-init : goal.meet-loop-i-init
meet-loop-i-init t c = record {
  same_length = omega (arith, c.if-len.false, c.len.ensures, c.len-else-f-g.ensures, c.fs.inside.items.ok.0, c.gs.inside.items.ok.0, ap length c.deref-x-items.ensures.value);
  follow = λ θ s e. (s, e);
  says = λ _ θ. (λ h. h, λ h. h);
}

pub meet-returns-in-Apart : goal.meet-returns-in-Apart
meet-returns-in-Apart t c =
    let a = (goal.at.meet-returns-in-Apart t c).After-deref-x-items in
    let h = c.loop-i.invariant in
    never_meets c.args.bindings.now.list.items c.loop-i.bindings.list.items c.deref-x-items.result.now c.gs.inside.items.items c.loop-i.i c.x-item.result c.index.result.now c.in-App-App.f c.in-App-App.g
    (tree c.args.a.now) (tree c.args.b.now) (left t a) (right t a) c.loop-i-test.true h.same_length c.x-item.is c.index.ensures h.follow (rw c.in-Apart.is at c.in_ok-meeting-in-App-App.ensures)

pub meet-loop-i-preserved : goal.meet-loop-i-preserved
meet-loop-i-preserved t c =
    let h = c.loop-i.invariant in
    let old = c.args.bindings.now.list.items in
    let mid = c.loop-i.bindings.list.items in
    let new = c.meet.new.bindings.list.items in
    let xs = c.deref-x-items.result.now in
    let ys = c.gs.inside.items.items in
    let follow = next_follows old mid new xs ys c.loop-i.i c.x-item.result c.index.result.now c.loop-i-test.true h.same_length c.x-item.is c.index.ensures h.follow in
    elim c.match-meeting.branch [
      | meet-in-Met w ↦ record {
        same_length = h.same_length;
        follow = follow (λ θ s e. ((rw w.in-Met.is at c.in_ok-meeting-in-App-App.ensures) θ).0 (s, e));
        says = λ clear. next_meets old mid new xs ys c.loop-i.i c.x-item.result c.index.result.now c.loop-i-test.true h.same_length c.x-item.is c.index.ensures
            (h.says (sym w.is_clear-is ∙ clear)) (rw w.in-Met.is at c.in_ok-meeting-in-App-App.ensures);
      }
      | meet-in-Unclear w ↦ record {
        same_length = h.same_length;
        follow = follow (rw w.in-Unclear.is at c.in_ok-meeting-in-App-App.ensures);
        says = λ clear. absurd (cc (clear, w.is_clear-is));
      }
    ]

pub meet-returns-then-is_clear : goal.meet-returns-then-is_clear
meet-returns-then-is_clear t c =
    let a = (goal.at.meet-returns-then-is_clear t c).After-deref-x-items in
    let h = c.loop-i.invariant in
    all_meet c.args.bindings.now.list.items c.loop-i.bindings.list.items c.deref-x-items.result.now c.gs.inside.items.items c.loop-i.i c.in-App-App.f c.in-App-App.g (tree c.args.a.now) (tree c.args.b.now)
    (left t a) (right t a) c.if-f-g.false h.same_length c.loop-i-test.false (h.says c.if-is_clear.true)

pub meet-returns-else-is_clear : goal.meet-returns-else-is_clear
meet-returns-else-is_clear t c =
    let a = (goal.at.meet-returns-else-is_clear t c).After-deref-x-items in
    all_follow c.args.bindings.now.list.items c.loop-i.bindings.list.items c.deref-x-items.result.now c.gs.inside.items.items c.loop-i.i c.in-App-App.f c.in-App-App.g (tree c.args.a.now) (tree c.args.b.now)
    (left t a) (right t a) c.loop-i.invariant.follow
