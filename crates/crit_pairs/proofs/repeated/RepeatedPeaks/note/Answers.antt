use Rattle.crit_pairs.proofs.RepeatedPeaks.{one_noted}
use Rattle.crit_pairs.proofs.repeated.RepeatedPeaks.note.Goals as goal

pub returns : goal.returns
returns c = λ rules i j p list repeated equal is.
    one_noted c.args.self.now.noted.items rules i j p list repeated c.in-Some.first (rw c.in-Some.is at equal) c.args.added c.push.new.self.items c.in_ok-push.ensures.items is
