use Rattle.std.proofs.Common.{ℕ, List, ap, sym, ◌∙◌}
use Rattle.path_lpo.specs.pair_order.Entries.{place_among}
use Rattle.lpo_find.proofs.Assigning.{no_rank, rank_there}
use Rattle.lpo_find.proofs.assigned.AssignedPrecedence.rank.Goals as goal

pub returns-in-Some : goal.returns-in-Some
returns-in-Some c =
    let x = c.args.self.now.space.now in
    c.from.ensures ∙ c.value_at.ensures
    ∙ rank_there x.arities.now x.symbols.now c.args.self.now.values.now c.args.symbol x.distinct c.in-Some.place
    (ap (λ (l : List ℕ). place_among l c.args.symbol) (sym x.placed) ∙ (sym c.place.ensures ∙ c.in-Some.is))

pub returns-in-None : goal.returns-in-None
returns-in-None c =
    let x = c.args.self.now.space.now in
    no_rank x.arities.now x.symbols.now c.args.self.now.values.now c.args.symbol
    (ap (λ (l : List ℕ). place_among l c.args.symbol) (sym x.placed) ∙ (sym c.place.ensures ∙ c.in-None.is))
