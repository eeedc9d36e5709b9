use Rattle.std.proofs.Common.{ℕ, List, ap, sym, ◌∙◌, arith}
use Rattle.order_theory.specs.ArgumentFilter.{Keep}
use Rattle.lpo_find.specs.LpoSpace.{filter_number}
use Rattle.lpo_find.proofs.Places.{none_left_out}
use Rattle.lpo_find.proofs.filters.filter_number.Goals as goal

pub returns-then-number-eq0 : goal.returns-then-number-eq0
returns-then-number-eq0 c =
    ap (λ (l : List ℕ). Keep l) (c.in_ok-places_but.ensures ∙ none_left_out 0 1 c.args.arity (omega arith))
    ∙ ap (λ (v : ℕ). filter_number c.args.arity v) (sym c.if-number-eq0.true)
