use Rattle.std.proofs.Common.{◌≡◌, ℕ, None, Some, length, slice_get, subst, arith}
use Rattle.crit_pairs.specs.Meeting.{bound_term}
use Rattle.crit_pairs.specs.Slots.{slot_of}
use Rattle.crit_pairs.proofs.SlotLaws.{still_placed, one_placed}
use Rattle.crit_pairs.proofs.binding_table.Bindings.add.Goals as goal

pub invariant_of-self : goal.invariant_of-self
invariant_of-self c =
    let old = c.make_room.new.self in
    let none : bound_term old.list.items c.args.binding.variable ≡ None = rw c.make_room.ensures.items c.requires in
    record {
      placed = still_placed old.places.items c.note_place.new.places.items old.list.items c.args.binding.variable old.placed c.note_place.ensures.others none;
    }

pub invariant_of-self-2 : goal.invariant_of-self-2
invariant_of-self-2 c =
    let old = c.make_room.new.self in
    let none : bound_term old.list.items c.args.binding.variable ≡ None = rw c.make_room.ensures.items c.requires in
    let long : c.len-place.result ≡ length old.list.items = omega (arith, c.len-place.ensures, old.list.ok.0) in
    let P : ℕ → Type 0 = λ n. slice_get c.note_place.new.places.items (slot_of c.args.binding.variable) ≡ Some n in
    record {
      placed = one_placed c.note_place.new.places.items old.list.items c.push_reserved.new.self.items c.args.binding
          (still_placed old.places.items c.note_place.new.places.items old.list.items c.args.binding.variable old.placed c.note_place.ensures.others none)
          (subst P long c.in_ok-note_place.ensures.noted) c.push_reserved.ensures.items;
    }
