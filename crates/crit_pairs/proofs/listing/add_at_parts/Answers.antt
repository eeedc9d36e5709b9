use Rattle.std.proofs.lemmas.Result.{err_from_is_err_and}
use Rattle.crit_pairs.proofs.Keeping.{kept_on, kept_stops}
use Rattle.crit_pairs.proofs.PartLaws.{next_part}
use Rattle.crit_pairs.proofs.listing.add_at_parts.Goals as goal

pub loop-part-preserved : goal.loop-part-preserved
loop-part-preserved g c = record {
  moves = λ before h.
      kept_on _ _ _ _ _ _ _ _ _ (next_part c.args.rules.now.rules c.args.j c.args.parts.now c.loop-part.part-index c.part-item.result c.loop-part-test.true c.part-item.is)
      (c.loop-part.invariant.moves before h) _ (rw c.places-place.ensures.places at c.in_ok-add_at.ensures.moves);
  held = c.in_ok-add_at.ensures.held;
}

pub returns-in_err-add_at-clause-stops : goal.returns-in_err-add_at-clause-stops
returns-in_err-add_at-clause-stops g c =
    let p = err_from_is_err_and c.from_residual.result c.from_residual.ensures.1 in
    rw (p.1, p.2) (λ ne before h.
    kept_stops _ _ _ _ _ _ _ _ _ (next_part c.args.rules.now.rules c.args.j c.args.parts.now c.loop-part.part-index c.part-item.result c.loop-part-test.true c.part-item.is)
    (c.loop-part.invariant.moves before h) _ (rw c.places-place.ensures.places at (c.in_err-add_at.ensures.stops ne)))
