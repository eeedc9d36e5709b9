use Rattle.std.proofs.Common.{◌≡◌, ◌∙◌, Some, length, slice_get, ap, sym, refl, arith}
use Rattle.std.proofs.lemmas.Option.{same_Some, slice_get_within}
use Rattle.crit_pairs.specs.Slots.{slot_of}
use Rattle.crit_pairs.proofs.SlotLaws.{item_read}
use Rattle.crit_pairs.proofs.names.Names.place.Goals as goal

pub returns-in_err-place-clause-none : goal.returns-in_err-place-clause-none
returns-in_err-place-clause-none c =
    let places = c.args.self.now.places.items in
    let past = c.in_err-place.ensures.lookup.3 in
    rw c.from_residual.ensures (λ k at.
    absurd (omega (arith, slice_get_within places (slot_of c.args.v) k (c.args.self.now.placed.placed k c.args.v at), past, ap length c.deref.ensures.value, c.slot.ensures.value)))

pub returns-in_err-name-clause-none : goal.returns-in_err-name-clause-none
returns-in_err-name-clause-none c =
    let places = c.args.self.now.places.items in
    let names = c.args.self.now.order.items in
    let p = c.in_ok-place.field-0.now in
    let there = item_read c.deref.result.now places c.slot.result (slot_of c.args.v) p c.deref.ensures.value c.slot.ensures.value c.in_ok-place.ensures.lookup.3.0 c.in_ok-place.ensures.lookup.1 in
    let past = c.in_err-name.ensures.lookup.3 in
    rw c.from_residual-in_err-name.ensures (λ k at.
    let one : k ≡ p = same_Some k p (sym (c.args.self.now.placed.placed k c.args.v at) ∙ there) in
    absurd (omega (arith, one, slice_get_within names k c.args.v at, past, ap length c.deref-2.ensures.value)))

pub returns-then-name-v-clause-some : goal.returns-then-name-v-clause-some
returns-then-name-v-clause-some c =
    let p = c.in_ok-place.field-0.now in
    item_read c.deref-2.result.now c.args.self.now.order.items p p c.in_ok-name.name.now c.deref-2.ensures.value refl c.in_ok-name.ensures.lookup.3.0 c.in_ok-name.ensures.lookup.1
    ∙ ap (λ z. Some z) c.if-name-v.true

pub returns-else-name-v-clause-none : goal.returns-else-name-v-clause-none
returns-else-name-v-clause-none c =
    let places = c.args.self.now.places.items in
    let names = c.args.self.now.order.items in
    let p = c.in_ok-place.field-0.now in
    let there = item_read c.deref.result.now places c.slot.result (slot_of c.args.v) p c.deref.ensures.value c.slot.ensures.value c.in_ok-place.ensures.lookup.3.0 c.in_ok-place.ensures.lookup.1 in
    let here = item_read c.deref-2.result.now names p p c.in_ok-name.name.now c.deref-2.ensures.value refl c.in_ok-name.ensures.lookup.3.0 c.in_ok-name.ensures.lookup.1 in
    λ k at.
    let one : k ≡ p = same_Some k p (sym (c.args.self.now.placed.placed k c.args.v at) ∙ there) in
    c.if-name-v.false (same_Some c.in_ok-name.name.now c.args.v (sym here ∙ (ap (slice_get names) (sym one) ∙ at)))
