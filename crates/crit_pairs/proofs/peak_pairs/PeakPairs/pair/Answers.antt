use Rattle.std.proofs.Common.{length, refl}
use Rattle.std.proofs.lemmas.Option.{slice_get_read}
use Rattle.crit_pairs.proofs.TableLaws.{pair_of_peak}
use Rattle.crit_pairs.proofs.peak_pairs.PeakPairs.pair.Goals as goal

pub returns : goal.returns
returns c = λ peaks p held there.
    let pairs = c.args.self.now.pairs.items in
    pair_of_peak held c.args.n _ p (slice_get_read pairs (length pairs) c.args.n _ refl c.requires c.index.ensures) there
