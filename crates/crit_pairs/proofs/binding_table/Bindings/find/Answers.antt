use Rattle.std.proofs.Common.{◌≡◌, ◌∙◌, length, slice_get, ap, sym, refl, arith}
use Rattle.std.proofs.lemmas.Option.{same_Some, slice_get_within}
use Rattle.crit_pairs.specs.Slots.{slot_of}
use Rattle.crit_pairs.proofs.SlotLaws.{item_read, not_placed, placed_at}
use Rattle.crit_pairs.proofs.binding_table.Bindings.find.Goals as goal

pub returns-in_err-place : goal.returns-in_err-place
returns-in_err-place c =
    let places = c.args.self.now.places.items in
    let past = c.in_err-place.ensures.lookup.3 in
    rw c.from_residual.ensures (not_placed places c.args.self.now.list.items c.args.v c.args.self.now.placed (λ k b at _ _.
    absurd (omega (arith, slice_get_within places (slot_of c.args.v) k at, past, ap length c.deref.ensures.value, c.slot.ensures.value))))

pub returns-in_err-binding : goal.returns-in_err-binding
returns-in_err-binding c =
    let places = c.args.self.now.places.items in
    let bs = c.args.self.now.list.items in
    let p = c.in_ok-place.field-0.now in
    let there = item_read c.deref.result.now places c.slot.result (slot_of c.args.v) p c.deref.ensures.value c.slot.ensures.value c.in_ok-place.ensures.lookup.3.0 c.in_ok-place.ensures.lookup.1 in
    let past = c.in_err-binding.ensures.lookup.3 in
    rw c.from_residual-in_err-binding.ensures (not_placed places bs c.args.v c.args.self.now.placed (λ k b at here _.
    absurd (omega (arith, same_Some k p (sym at ∙ there), slice_get_within bs k b here, past, ap length c.deref-2.ensures.value))))

pub returns-then-binding-v : goal.returns-then-binding-v
returns-then-binding-v c =
    let places = c.args.self.now.places.items in
    let bs = c.args.self.now.list.items in
    let p = c.in_ok-place.field-0.now in
    let b = c.in_ok-binding.binding.now in
    let there = item_read c.deref.result.now places c.slot.result (slot_of c.args.v) p c.deref.ensures.value c.slot.ensures.value c.in_ok-place.ensures.lookup.3.0 c.in_ok-place.ensures.lookup.1 in
    let here = item_read c.deref-2.result.now bs p p b c.deref-2.ensures.value refl c.in_ok-binding.ensures.lookup.3.0 c.in_ok-binding.ensures.lookup.1 in
    placed_at places bs c.args.v p b c.args.self.now.placed there here c.if-binding-v.true

pub returns-else-binding-v : goal.returns-else-binding-v
returns-else-binding-v c =
    let places = c.args.self.now.places.items in
    let bs = c.args.self.now.list.items in
    let p = c.in_ok-place.field-0.now in
    let b = c.in_ok-binding.binding.now in
    let there = item_read c.deref.result.now places c.slot.result (slot_of c.args.v) p c.deref.ensures.value c.slot.ensures.value c.in_ok-place.ensures.lookup.3.0 c.in_ok-place.ensures.lookup.1 in
    let here = item_read c.deref-2.result.now bs p p b c.deref-2.ensures.value refl c.in_ok-binding.ensures.lookup.3.0 c.in_ok-binding.ensures.lookup.1 in
    not_placed places bs c.args.v c.args.self.now.placed (λ k a at there_too is.
    let one : k ≡ p = same_Some k p (sym at ∙ there) in
    let same : a ≡ b = same_Some a b (sym there_too ∙ (ap (slice_get bs) one ∙ here)) in
    c.if-binding-v.false (ap (λ z. z.variable) (sym same) ∙ is))
