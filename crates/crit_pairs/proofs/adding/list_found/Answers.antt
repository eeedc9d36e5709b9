use Rattle.std.proofs.Common.{arith, refl}
use Rattle.std.proofs.lemmas.Result.{err_from_is_err_and}
use Rattle.trs_defs.proofs.Contexts.{replaced_somehow}
use Rattle.trs_core.specs.View.{tree}
use Rattle.crit_pairs.specs.Apart.{renamed_apart}
use Rattle.crit_pairs.specs.MadePairs.{spot}
use Rattle.crit_pairs.specs.Overlapping.{substitution}
use Rattle.crit_pairs.proofs.FoundPeaks.{found_peak, limit_passed}
use Rattle.crit_pairs.proofs.Keeping.{held_still}
use Rattle.crit_pairs.proofs.Renumbering.{keeps_too}
use Rattle.crit_pairs.proofs.RepeatedPeaks.{adds_listed, is_listed}
use Rattle.crit_pairs.proofs.adding.list_found.Goals as goal

pub returns-clause-moves : goal.returns-clause-moves
returns-clause-moves g c =
    let (u, replaced) = replaced_somehow c.args.place.now c.args.outer.now.left (tree c.args.part.now) (renamed_apart c.args.inner.now).right c.requires.there in
    let renumbered = c.in_ok-made.ensures.renumbered u replaced in
    let at = found_peak c.args.rules.now.rules c.args.j c.args.i c.args.place.now (tree c.args.part.now) c.args.inner.now c.args.outer.now c.requires.outer c.requires.inner c.requires.there c.requires.small
    (substitution c.args.unifier.now) c.requires.unifier u replaced _ _ _ renumbered in
    let limits = keeps_too _ _ _ _ _ _ renumbered c.args.peaks.now.nodes _ (c.in_ok-made.ensures.limits u replaced) in
    adds_listed c.args.rules.now.rules (spot c.args.j c.args.place.now c.args.i) c.args.peaks.now _ _ at refl c.saturating_add-peaks.ensures limits (rw c.in_ok-position_of.ensures at c.in_ok-push_peak.ensures) c.requires.room

pub returns-clause-added : goal.returns-clause-added
returns-clause-added g c =
    let (u, replaced) = replaced_somehow c.args.place.now c.args.outer.now.left (tree c.args.part.now) (renamed_apart c.args.inner.now).right c.requires.there in
    let renumbered = c.in_ok-made.ensures.renumbered u replaced in
    let at = found_peak c.args.rules.now.rules c.args.j c.args.i c.args.place.now (tree c.args.part.now) c.args.inner.now c.args.outer.now c.requires.outer c.requires.inner c.requires.there c.requires.small
    (substitution c.args.unifier.now) c.requires.unifier u replaced _ _ _ renumbered in
    let limits = keeps_too _ _ _ _ _ _ renumbered c.args.peaks.now.nodes _ (c.in_ok-made.ensures.limits u replaced) in
    rw c.in_ok-push_peak.ensures (rw c.in_ok-position_of.ensures
    (is_listed c.args.rules.now.rules (spot c.args.j c.args.place.now c.args.i) _ at c.args.peaks.now.nodes _ _ limits c.saturating_sub.ensures c.args.peaks.now.list.items _
    (omega (arith, c.len-number.ensures, c.args.peaks.now.list.ok.0))))

pub returns-clause-longer : goal.returns-clause-longer
returns-clause-longer g c = (_, c.in_ok-push_peak.ensures)

pub returns-clause-held : goal.returns-clause-held
returns-clause-held g c =
    held_still g.T.PeakTop.holds c.args.rules.now.rules _ _ _ _ refl c.in_ok-push_peak.ensures
    (c.in_ok-made.ensures.held c.args.peaks.now.list.items _ c.requires.held refl refl)

pub returns-in_err-made-clause-stops : goal.returns-in_err-made-clause-stops
returns-in_err-made-clause-stops g c =
    let p = err_from_is_err_and c.from_residual.result c.from_residual.ensures.1 in
    let (u, replaced) = replaced_somehow c.args.place.now c.args.outer.now.left (tree c.args.part.now) (renamed_apart c.args.inner.now).right c.requires.there in
    rw (p.1, p.2) (λ ne before h.
    limit_passed c.args.rules.now.rules c.args.j c.args.i c.args.place.now (tree c.args.part.now) c.args.inner.now c.args.outer.now c.requires.outer c.requires.inner c.requires.there c.requires.small
    (substitution c.args.unifier.now) c.requires.unifier u replaced c.in_err-made.field-0.0 c.args.peaks.now.nodes ne (c.in_err-made.ensures.fault u replaced) before)
