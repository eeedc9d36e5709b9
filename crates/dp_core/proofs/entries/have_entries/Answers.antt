use Rattle.std.proofs.Common.{inl, inr, ◌≡◌, IsTrue, sym, subst, ◌∙◌, arith}
use Rattle.std.proofs.lemmas.Bool.{cases_lt}
use Rattle.dp_core.proofs.entries.have_entries.Goals as goal

pub loop-f-preserved : goal.loop-f-preserved
loop-f-preserved g c = λ k below. elim (cases_lt k c.loop-f.f) [
  | inl less ↦ c.loop-f.invariant k less
  | inr more ↦ let same : c.loop-f.f ≡ k = omega (arith, below, more) in
      subst (λ j. IsTrue (g.O.ReductionPair.has c.args.order.now j)) same (sym c.has_entry.ensures ∙ c.if-not-has_entry.false)
]

pub returns : goal.returns
returns g c = λ yes k below. c.loop-f.invariant k (omega (arith, below, c.loop-f-test.false))
