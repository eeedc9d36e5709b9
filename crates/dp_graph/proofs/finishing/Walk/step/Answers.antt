use Rattle.std.proofs.Common.{◌++◌, [], ◌∷◌, ℕ, List, arith, refl, sym, subst}
use Rattle.std.proofs.lemmas.Option.{slice_get_read}
use Rattle.dp_graph.specs.GraphConditions.{lists_of}
use Rattle.dp_graph.specs.Finishing.{IsWalk}
use Rattle.dp_graph.proofs.FinishingLaws.{last_within, follow_walk, follow_effort, finish_place, enters_kept}
use Rattle.dp_graph.proofs.ListPlaces.{lists_length, row_at}
use Rattle.dp_graph.proofs.finishing.Walk.step.Goals as goal

pub offset_bounds-rows-place : goal.offset_bounds-rows-place
offset_bounds-rows-place c =
    let w = c.args.self.now in
    let h = last_within (lists_of c.args.rows.now) w.entered.items w.next.items w.way.items w.finished.items c.args.place c.requires.walk in
    let size = lists_length c.args.rows.now in
    omega (arith, h, size)

pub bounds-rows-place : goal.bounds-rows-place
bounds-rows-place c =
    let w = c.args.self.now in
    let h = last_within (lists_of c.args.rows.now) w.entered.items w.next.items w.way.items w.finished.items c.args.place c.requires.walk in
    let size = lists_length c.args.rows.now in
    omega (arith, h, size)

pub index-next-requires : goal.index-next-requires
index-next-requires c =
    let w = c.args.self.now in
    let h = last_within (lists_of c.args.rows.now) w.entered.items w.next.items w.way.items w.finished.items c.args.place c.requires.walk in
    let size = c.requires.walk.nexts in
    omega (arith, h, size)

pub follow-requires : goal.follow-requires
follow-requires c =
    let w = c.args.self.now in
    let h = last_within (lists_of c.args.rows.now) w.entered.items w.next.items w.way.items w.finished.items c.args.place c.requires.walk in
    let size = c.requires.walk.nexts in
    omega (arith, h, size)

pub returns-then-next-len-clause-walk : goal.returns-then-next-len-clause-walk
returns-then-next-len-clause-walk c =
    let w = c.args.self.now in
    let new = c.follow.new.self in
    let rows = lists_of c.args.rows.now in
    let size = lists_length c.args.rows.now in
    let nexts = c.requires.walk.nexts in
    let h = last_within rows w.entered.items w.next.items w.way.items w.finished.items c.args.place c.requires.walk in
    let n = c.index-next.result.now in
    let j = c.index.result.now in
    let row = c.index-rows-place.result in
    let e = c.in_ok-follow.ensures in
    follow_walk rows c.requires.within w.entered.items new.entered.items w.next.items new.next.items w.way.items new.way.items w.finished.items new.finished.items c.args.place n j row.items c.requires.walk
    e.enters e.next e.finished (slice_get_read w.next.items _ c.args.place n refl (omega (arith, h, nexts)) c.index-next.ensures)
    (row_at c.args.rows.now c.args.place row (omega (arith, h, size)) c.index-rows-place.is) (slice_get_read row.items _ n j refl (omega (arith, c.if-next-len.true, c.len.ensures)) c.index.ensures)

pub returns-then-next-len-clause-kept : goal.returns-then-next-len-clause-kept
returns-then-next-len-clause-kept c =
    let w = c.args.self.now in
    let new = c.follow.new.self in
    enters_kept w.entered.items new.entered.items (w.way.items ++ c.args.place ∷ []) new.way.items c.index.result.now c.in_ok-follow.ensures.enters

pub returns-then-next-len-clause-effort : goal.returns-then-next-len-clause-effort
returns-then-next-len-clause-effort c =
    let w = c.args.self.now in
    let new = c.follow.new.self in
    let rows = lists_of c.args.rows.now in
    let size = lists_length c.args.rows.now in
    let nexts = c.requires.walk.nexts in
    let h = last_within rows w.entered.items w.next.items w.way.items w.finished.items c.args.place c.requires.walk in
    let n = c.index-next.result.now in
    let row = c.index-rows-place.result in
    let e = c.in_ok-follow.ensures in
    follow_effort rows w.entered.items new.entered.items w.next.items new.next.items w.way.items (w.way.items ++ c.args.place ∷ []) new.way.items c.args.place n c.index.result.now row.items e.enters refl
    (slice_get_read w.next.items _ c.args.place n refl (omega (arith, h, nexts)) c.index-next.ensures) (row_at c.args.rows.now c.args.place row (omega (arith, h, size)) c.index-rows-place.is)
    (omega (arith, c.if-next-len.true, c.len.ensures)) e.next

pub returns-clause-walk : goal.returns-clause-walk
returns-clause-walk c =
    let w = c.args.self.now in
    let rows = lists_of c.args.rows.now in
    let size = lists_length c.args.rows.now in
    let nexts = c.requires.walk.nexts in
    let h = last_within rows w.entered.items w.next.items w.way.items w.finished.items c.args.place c.requires.walk in
    let n = c.index-next.result.now in
    let row = c.index-rows-place.result in
    subst (λ (z : List ℕ). IsWalk rows w.entered.items w.next.items w.way.items z) (sym c.in_ok-push.ensures.items)
    (finish_place rows w.entered.items w.next.items w.way.items w.finished.items c.args.place n row.items c.requires.walk
    (slice_get_read w.next.items _ c.args.place n refl (omega (arith, h, nexts)) c.index-next.ensures) (row_at c.args.rows.now c.args.place row (omega (arith, h, size)) c.index-rows-place.is)
    (omega (arith, c.if-next-len.false, c.len.ensures)))
