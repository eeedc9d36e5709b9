use Rattle.std.proofs.Common.{◌≡◌, List, Some, length, slice_get, refl, subst}
use Rattle.std.proofs.lemmas.Option.{slice_get_read}
use Rattle.crit_pairs.specs.declared.known_peak.KnownPeak.{KnownPeak}
use Rattle.crit_pairs.proofs.EqualRules.{known_of_equal}
use Rattle.crit_pairs.proofs.known_peak.KnownPeaks.of.Goals as goal

pub returns-in-Some : goal.returns-in-Some
returns-in-Some c = λ rules j p pool equal each.
    let firsts = c.args.equal.now.firsts.items in
    let first = c.index-first.result.now in
    let read : slice_get firsts c.args.i ≡ Some first = slice_get_read firsts (length firsts) c.args.i first refl c.requires c.index-first.ensures in
    let known = c.in-Some.known.now in
    let slice = c.deref.result.now in
    let there : slice_get slice first ≡ Some known = slice_get_read slice (length slice) first known refl c.in-Some.ensures.lookup.3.0 c.in-Some.ensures.lookup.1 in
    let N : List KnownPeak → Type 0 = λ xs. slice_get xs first ≡ Some known in
    known_of_equal rules j p pool (slice_get rules first) (slice_get rules c.args.i) _ (equal c.args.i first read) (each first known (subst N c.deref.ensures.value there))

pub returns-in-None : goal.returns-in-None
returns-in-None c = λ rules j p pool equal each. tt
