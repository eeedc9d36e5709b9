use Rattle.std.proofs.Common.{◌∷◌, get_or, arith, ap, sym, ◌∙◌}
use Rattle.loop_find.proofs.Ways.{first_and_rest}
use Rattle.loop_find.proofs.writing.first_step.Goals as goal

pub returns-clause-some : goal.returns-clause-some
returns-clause-some c = first_and_rest c.args.place.now (omega (arith, c.if-place-eq0.false)) ∙ ap (λ z. get_or c.args.place.now 0 0 ∷ z) (sym c.split_at.ensures.back)
