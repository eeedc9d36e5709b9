use Rattle.std.proofs.Common.{◌≡◌, ℕ, Some, length, slice_get, subst, arith}
use Rattle.term_pool.proofs.InstanceLaws.{note_noted, note_kept, note_right}
use Rattle.term_pool.proofs.noted_instances.Instances.note.Goals.{In_ok-push}
use Rattle.term_pool.proofs.noted_instances.Instances.note.Goals as goal

here : (c : In_ok-push) → slice_get c.note_place.new.places.items c.args.id ≡ Some (length c.args.self.now.noted.items)
here c =
    let count : c.len.result ≡ length c.args.self.now.noted.items = omega (arith, c.len.ensures, c.args.self.now.noted.ok.0) in
    let P : ℕ → Type 0 = λ k. slice_get c.note_place.new.places.items c.args.id ≡ Some k in
    subst P count c.in_ok-note_place.ensures.noted

pub returns-clause-noted : goal.returns-clause-noted
returns-clause-noted c =
    let a = (goal.at.returns-clause-noted c).In_ok-push in
    note_noted c.args.self.now (record { noted = c.push.new.self; places = c.note_place.new.places }) c.args.id c.args.instance c.in_ok-push.ensures.items (here a)

pub returns-clause-kept : goal.returns-clause-kept
returns-clause-kept c =
    let a = (goal.at.returns-clause-kept c).In_ok-push in
    note_kept c.args.self.now (record { noted = c.push.new.self; places = c.note_place.new.places }) c.args.id c.args.instance c.in_ok-push.ensures.items (here a) c.in_ok-note_place.ensures.others

pub returns-clause-right : goal.returns-clause-right
returns-clause-right c =
    note_right c.args.self.now (record { noted = c.push.new.self; places = c.note_place.new.places }) c.args.id c.args.instance c.in_ok-push.ensures.items
