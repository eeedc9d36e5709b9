use Rattle.std.proofs.Common.{◌-◌, ◌^◌, ◌<◌, ◌∙◌, refl, sym, subst, suc, arith}
use Rattle.trs_core.specs.View.{tree}
use Rattle.poly_lin.proofs.Windows.{sums_are, after_window, left, fewer_left}
use Rattle.poly_lin.specs.TooBig.{AreSmall}
use Rattle.poly_lin.proofs.BigVariables.{all_small, some_big, more_small}
use Rattle.poly_lin.proofs.too_big.has_big_from.Goals as goal

pub loop-next-smaller : goal.loop-next-smaller
loop-next-smaller g c =
    let next = c.add_coefficients-next.result in
    let smaller : left next < suc (2 ^ 32 - c.in-Some.first) =
    fewer_left c.in-Some.first next (omega arith) (after_window 512 c.in-Some.first next (omega arith) (c.add_coefficients-next.ensures.behind tt)) in
    subst (λ o. left next < left o) (sym c.in-Some.is) smaller

pub loop-next-preserved : goal.loop-next-preserved
loop-next-preserved g c =
    let sums = c.add_coefficients-next.new.sums in
    more_small (g.T.Coefficients.coefficient c.args.table.now) (tree c.args.t.now) c.in-Some.first 512 sums
    (sums_are (g.T.Coefficients.coefficient c.args.table.now) 512 c.in-Some.first (tree c.args.t.now) sums c.add_coefficients-next.ensures.added)
    c.add_coefficients-next.result (subst (AreSmall (g.T.Coefficients.coefficient c.args.table.now) (tree c.args.t.now)) c.in-Some.is c.loop-next.invariant)
    (sym c.has_big.ensures ∙ c.if-has_big.false) c.add_coefficients-next.ensures.next

pub returns-then-has_big : goal.returns-then-has_big
returns-then-has_big g c =
    let sums = c.add_coefficients-next.new.sums in
    let big = some_big (g.T.Coefficients.coefficient c.args.table.now) (tree c.args.t.now) c.in-Some.first 512 sums
    (sums_are (g.T.Coefficients.coefficient c.args.table.now) 512 c.in-Some.first (tree c.args.t.now) sums c.add_coefficients-next.ensures.added)
    c.add_coefficients-next.ensures.length (sym c.has_big.ensures ∙ c.if-has_big.true) in
    (λ _. big, λ _. refl)

pub returns : goal.returns
returns g c = (
  λ yes. absurd (cc),
  λ big. absurd (all_small (g.T.Coefficients.coefficient c.args.table.now) (tree c.args.t.now) c.loop-next.next c.in_default.is c.loop-next.invariant big),
)
