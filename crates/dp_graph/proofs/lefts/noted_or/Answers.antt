use Rattle.std.proofs.Common.{Some, length, slice_get, ◌≡◌, inl, inr, refl, ap, ◌∙◌}
use Rattle.std.proofs.lemmas.Option.{slice_get_read}
use Rattle.dp_graph.proofs.LeftLaws.{noted_now, none_new}
use Rattle.dp_graph.proofs.lefts.noted_or.Goals as goal

pub returns-in-Some-clause-number : goal.returns-in-Some-clause-number
returns-in-Some-clause-number c =
    let room = c.make_room.new.seen.items in
    let at : slice_get room c.args.id ≡ Some (Some c.in-Some.first) =
    slice_get_read room (length room) c.args.id c.index.result.now refl c.in_ok-make_room.ensures.room c.index.ensures ∙ ap (λ z. Some z) c.in-Some.is in
    inr ((c.in_ok-make_room.ensures.notes c.args.id c.in-Some.first).0 at)

pub returns-in-Some-clause-notes : goal.returns-in-Some-clause-notes
returns-in-Some-clause-notes c = none_new c.args.seen.now.items c.make_room.new.seen.items c.args.id c.in-Some.first c.in_ok-make_room.ensures.notes

pub returns-clause-number : goal.returns-clause-number
returns-clause-number c = inl refl

pub returns-clause-notes : goal.returns-clause-notes
returns-clause-notes c = noted_now c.args.seen.now.items c.make_room.new.seen.items _ c.args.id c.args.k c.in_ok-make_room.ensures.room c.in_ok-make_room.ensures.notes refl
