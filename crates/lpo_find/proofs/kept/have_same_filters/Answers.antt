use Rattle.std.proofs.Common.{◌≡◌, ◌*◌, ℕ, get_or, sym, ◌∙◌, arith}
use Rattle.lpo_find.proofs.KeptSides.{next_too}
use Rattle.lpo_find.proofs.kept.have_same_filters.Goals as goal

pub loop-place-preserved : goal.loop-place-preserved
loop-place-preserved c =
    next_too (λ (i : ℕ). get_or c.args.values.now (2 * i) 0 ≡ get_or c.args.others.now (2 * i) 0) c.loop-place.place c.loop-place.invariant
    (sym c.value_at.ensures ∙ (c.if-value_at.false ∙ c.value_at-in-loop-place.ensures))

pub returns : goal.returns
returns c = λ yes i below. c.loop-place.invariant i (omega (arith, below, c.loop-place-test.false))
