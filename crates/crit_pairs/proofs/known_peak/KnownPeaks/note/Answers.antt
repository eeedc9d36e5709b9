use Rattle.std.proofs.Common.{◌≡◌, Some, length, slice_get, refl, sym}
use Rattle.std.proofs.lemmas.Option.{slice_get_read}
use Rattle.crit_pairs.proofs.EqualRules.{known_of_equal, unknown_behind, one_known}
use Rattle.crit_pairs.proofs.known_peak.KnownPeaks.note.Goals as goal

pub loop-self-init : goal.loop-self-init
loop-self-init c = λ rules j p pool each. each

pub loop-self-preserved : goal.loop-self-preserved
loop-self-preserved c = λ rules j p pool each.
    unknown_behind rules j p pool c.loop-self.self.by_first.items _ c.in_ok-push.ensures.items (c.loop-self.invariant rules j p pool each)

pub returns : goal.returns
returns c = λ rules j p pool equal each here.
    let firsts = c.args.equal.now.firsts.items in
    let first = c.index-first.result.now in
    let read : slice_get firsts c.args.i ≡ Some first = slice_get_read firsts (length firsts) c.args.i first refl c.requires c.index-first.ensures in
    one_known rules j p pool c.loop-self.self.by_first.items _ first c.args.known refl (c.loop-self.invariant rules j p pool each)
    (known_of_equal rules j p pool (slice_get rules c.args.i) (slice_get rules first) c.args.known (sym (equal c.args.i first read)) here)
