use Rattle.std.proofs.Common.{ℕ, ◌==◌, ◌∙◌, ap}
use Rattle.order_search.specs.Ends.{end_among}
use Rattle.order_search.proofs.LastPlaces.{either_end}
use Rattle.order_find.proofs.subterm_space.end_of_pair.Goals as goal

pub returns : goal.returns
returns c =
    either_end (λ f. c.args.pair.now.from.symbol == f) (λ f. c.args.pair.now.to.symbol == f) c.args.places.now c.end_of.result c.end_of-2.result c.later.result
    (c.end_of.ensures ∙ ap (λ (k : ℕ). end_among (λ f. k == f) c.args.places.now) c.from_root.ensures)
    (c.end_of-2.ensures ∙ ap (λ (k : ℕ). end_among (λ f. k == f) c.args.places.now) c.to_root.ensures) c.later.ensures
