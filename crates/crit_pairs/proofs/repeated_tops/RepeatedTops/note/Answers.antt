use Rattle.std.proofs.Common.{refl}
use Rattle.crit_pairs.proofs.RepeatedTops.{one_top_noted, top_of_added}
use Rattle.crit_pairs.proofs.repeated_tops.RepeatedTops.note.Goals as goal

pub returns : goal.returns
returns c = λ rules i j p list tops equal root side added.
    one_top_noted c.args.self.now.noted.items rules i j p list tops c.in-Some.first (rw c.in-Some.is at equal) _ c.push.new.self.items c.in_ok-push.ensures.items refl
    (top_of_added rules j i p root c.args.side.now side list c.args.added _ c.saturating_sub.ensures refl added)
