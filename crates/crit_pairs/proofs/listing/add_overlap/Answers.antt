use Rattle.std.proofs.lemmas.Result.{on_ok_weaker}
use Rattle.crit_pairs.proofs.RepeatedPeaks.{still_repeated}
use Rattle.crit_pairs.proofs.RepeatedTops.{still_tops}
use Rattle.crit_pairs.proofs.listing.add_overlap.Goals as goal

pub returns-in-Some-clause-known : goal.returns-in-Some-clause-known
returns-in-Some-clause-known g c =
    on_ok_weaker c.add_at_root.result (λ longer. still_repeated c.args.rules.now.rules c.args.j c.args.place.now c.args.peaks.now.list.items _ c.args.known.now.noted.items longer c.requires.known)
    c.add_at_root.ensures.longer

pub returns-in-None-clause-tops : goal.returns-in-None-clause-tops
returns-in-None-clause-tops g c =
    on_ok_weaker c.add_repeated.result (λ longer. still_tops c.args.rules.now.rules c.args.j c.args.place.now c.args.peaks.now.list.items _ c.args.tops.now.noted.items longer c.requires.tops)
    c.add_repeated.ensures.longer
