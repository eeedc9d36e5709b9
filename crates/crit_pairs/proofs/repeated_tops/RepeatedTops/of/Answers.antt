use Rattle.std.proofs.Common.{slice_get, ap, sym, ◌∙◌}
use Rattle.std.proofs.lemmas.Option.{slice_get-get_or}
use Rattle.crit_pairs.proofs.RepeatedTops.{noted_top}
use Rattle.crit_pairs.proofs.repeated_tops.RepeatedTops.of.Goals as goal

pub returns-then-found-first : goal.returns-then-found-first
returns-then-found-first c = λ rules i j p list tops equal.
    let n = c.loop-found.found-index in
    let there = ap (λ xs. slice_get xs n) (sym c.deref-found-items.ensures.value) ∙ slice_get-get_or c.deref-found-items.result.now n _ c.loop-found-test.true in
    noted_top c.args.self.now.noted.items rules i j p list tops c.in-Some.first (rw c.in-Some.is at equal) n _ there c.if-found-first.true
