use Rattle.std.proofs.Common.{inl, inr, refl, false}
use Rattle.trs_core.specs.View.{tree}
use Rattle.order_theory.specs.ArgumentFilter.{filtered}
use Rattle.path_lpo.specs.declared.comparison.Comparison.TheVariants.{Same}
use Rattle.path_lpo.proofs.Walks.{greater_test}
use Rattle.path_lpo.proofs.comparing.decrease.Goals as goal

pub returns-in-Same : goal.returns-in-Same
returns-in-Same g c =
    let filter = g.P.Precedence.filters c.args.order.now in (
      inl c.in-Same.ensures,
      λ greater. let yes = (greater_test (g.P.Precedence.ranks c.args.order.now) (filtered filter (tree c.args.s.now)) (filtered filter (tree c.args.t.now)) Same false c.in-Same.ensures refl).1 greater in absurd cc,
    )

pub returns-in-Greater : goal.returns-in-Greater
returns-in-Greater g c = (inr c.in-Greater.ensures, c.in-Greater.ensures)

pub returns-in-Neither : goal.returns-in-Neither
returns-in-Neither g c = λ weak. elim weak [ inl same ↦ c.in-Neither.ensures.0 same | inr greater ↦ c.in-Neither.ensures.1 greater ]
