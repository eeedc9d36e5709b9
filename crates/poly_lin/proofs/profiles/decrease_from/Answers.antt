use Rattle.std.proofs.Common.{inl, inr, arith}
use Rattle.trs_core.specs.View.{tree}
use Rattle.poly_lin.specs.TooBig.{EitherIsBig}
use Rattle.poly_lin.proofs.Profiling.{neither_big, lower, uncovered, only_weak, even_strict}
use Rattle.poly_lin.proofs.profiles.decrease_from.Goals.{Else-has_big_coefficient}
use Rattle.poly_lin.proofs.profiles.decrease_from.Goals as goal

none : (g : _) (c : Else-has_big_coefficient g) → EitherIsBig (g.T.Coefficients.coefficient c.args.table.now) (tree c.args.a.now) (tree c.args.b.now) → ⊥
none g c =
    neither_big (g.T.Coefficients.coefficient c.args.table.now) (tree c.args.a.now) (tree c.args.b.now) c.args.profile.now.is_big c.has_big_coefficient.result
    c.requires.big c.has_big_coefficient.ensures c.if-profile.false c.if-has_big_coefficient.false

pub covers_known-requires : goal.covers_known-requires
covers_known-requires g c = c.requires.coefficients

pub returns-then-profile : goal.returns-then-profile
returns-then-profile g c = inl (c.requires.big.0 c.if-profile.true)

pub returns-then-has_big_coefficient : goal.returns-then-has_big_coefficient
returns-then-has_big_coefficient g c = inr (c.has_big_coefficient.ensures.0 c.if-has_big_coefficient.true)

pub returns-then-left-right : goal.returns-then-left-right
returns-then-left-right g c =
    let small = none g (goal.at.returns-then-left-right g c).Else-has_big_coefficient in
    (small, lower (g.T.Coefficients.coefficient c.args.table.now) (tree c.args.a.now) (tree c.args.b.now) small c.args.profile.now.constant c.saturated_value-right.result c.requires.constant c.saturated_value-right.ensures c.if-left-right.true)

pub returns-then-not-covers_known : goal.returns-then-not-covers_known
returns-then-not-covers_known g c =
    let small = none g (goal.at.returns-then-not-covers_known g c).Else-has_big_coefficient in (
      small,
      uncovered (g.T.Coefficients.coefficient c.args.table.now) (tree c.args.a.now) (tree c.args.b.now) small c.args.profile.now.constant c.saturated_value-right.result c.requires.constant c.saturated_value-right.ensures
          c.covers_known.result c.covers_known.ensures c.if-left-right.false c.if-not-covers_known.true,
    )

pub returns-then-left-right-2 : goal.returns-then-left-right-2
returns-then-left-right-2 g c =
    let small = none g (goal.at.returns-then-left-right-2 g c).Else-has_big_coefficient in (
      small,
      only_weak (g.T.Coefficients.coefficient c.args.table.now) (tree c.args.a.now) (tree c.args.b.now) small c.args.profile.now.constant c.saturated_value-right.result c.requires.constant c.saturated_value-right.ensures
          c.covers_known.result c.covers_known.ensures c.if-left-right-2.true c.if-not-covers_known.false,
    )

pub returns : goal.returns
returns g c =
    let small = none g (goal.at.returns g c).Else-has_big_coefficient in (
      small,
      even_strict (g.T.Coefficients.coefficient c.args.table.now) (tree c.args.a.now) (tree c.args.b.now) small c.args.profile.now.constant c.saturated_value-right.result c.requires.constant c.saturated_value-right.ensures
          c.covers_known.result c.covers_known.ensures (omega (arith, c.if-left-right.false, c.if-left-right-2.false)) c.if-not-covers_known.false,
    )
