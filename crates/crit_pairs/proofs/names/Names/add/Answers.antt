use Rattle.std.proofs.Common.{◌≡◌, ℕ, Some, length, slice_get, subst, arith}
use Rattle.crit_pairs.specs.Slots.{slot_of}
use Rattle.crit_pairs.proofs.SlotLaws.{still_named, one_named_if}
use Rattle.crit_pairs.proofs.names.Names.add.Goals as goal

pub invariant_of-self : goal.invariant_of-self
invariant_of-self c = record {
  placed = still_named c.args.self.now.places.items c.note_place.new.places.items c.args.self.now.order.items c.args.v c.args.self.now.placed c.note_place.ensures.others c.requires;
}

pub invariant_of-self-2 : goal.invariant_of-self-2
invariant_of-self-2 c =
    let names = c.args.self.now.order.items in
    let places = c.note_place.new.places.items in
    let long : c.len.result ≡ length names = omega (arith, c.len.ensures, c.args.self.now.order.ok.0) in
    let P : ℕ → Type 0 = λ n. slice_get places (slot_of c.args.v) ≡ Some n in
    record {
      placed = one_named_if _ places names c.push.new.self.items c.args.v
          (still_named c.args.self.now.places.items places names c.args.v c.args.self.now.placed c.note_place.ensures.others c.requires)
          (subst P long c.in_ok-note_place.ensures.noted) c.push.ensures.items;
    }
