use Rattle.std.proofs.Common.{ℕ, List, sym, ap, ◌∙◌}
use Rattle.kbo_find.specs.pair_order.Entries.{place_among}
use Rattle.order_find.proofs.SubtermPuzzle.{value_absent, value_there}
use Rattle.order_find.proofs.subterm_space.SubtermSpace.value_for.Goals as goal

pub returns-in-None : goal.returns-in-None
returns-in-None c =
    value_absent c.args.self.now.roots.now c.args.values.now c.args.f
    (ap (λ (gs : List ℕ). place_among gs c.args.f) (sym c.args.self.now.indexed) ∙ (sym c.place.ensures ∙ c.in-None.is))

pub returns-in-Some : goal.returns-in-Some
returns-in-Some c =
    c.value_at.ensures
    ∙ value_there c.args.self.now.roots.now c.args.values.now c.args.f c.in-Some.slot
    (ap (λ (gs : List ℕ). place_among gs c.args.f) (sym c.args.self.now.indexed) ∙ (sym c.place.ensures ∙ c.in-Some.is))
