use Rattle.std.proofs.Common.{ℕ, List, [], map, slice_get, ap, sym, ◌∙◌}
use Rattle.std.specs.Prelude.{unwrap_or}
use Rattle.order_theory.specs.ArgumentFilter.{Keep}
use Rattle.path_lpo.specs.pair_order.Entries.{place_among}
use Rattle.lpo_find.specs.Filters.{plain_filters}
use Rattle.lpo_find.proofs.Assigning.{no_filter, filter_there}
use Rattle.lpo_find.proofs.assigned.AssignedPrecedence.filter.Goals as goal

pub returns-in-Some : goal.returns-in-Some
returns-in-Some c =
    let x = c.args.self.now.space.now in
    let lists = map plain_filters x.filters.now in
    c.filter_at.ensures
    ∙ (ap (λ (v : ℕ). unwrap_or (slice_get (unwrap_or (slice_get lists c.in-Some.place) []) v) (Keep [])) c.value_at.ensures
    ∙ filter_there x.arities.now x.symbols.now c.args.self.now.values.now c.args.symbol x.distinct c.in-Some.place
    (ap (λ (l : List ℕ). place_among l c.args.symbol) (sym x.placed) ∙ (sym c.place.ensures ∙ c.in-Some.is)) lists x.filters_are)

pub returns-in-None : goal.returns-in-None
returns-in-None c =
    let x = c.args.self.now.space.now in
    no_filter x.arities.now x.symbols.now c.args.self.now.values.now c.args.symbol
    (ap (λ (l : List ℕ). place_among l c.args.symbol) (sym x.placed) ∙ (sym c.place.ensures ∙ c.in-None.is))
