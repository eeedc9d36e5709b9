use Rattle.std.proofs.Common.{refl}
use Rattle.std.proofs.lemmas.Result.{err_from_is_err_and}
use Rattle.trs_defs.proofs.Contexts.{replaced_somehow}
use Rattle.trs_core.specs.View.{tree}
use Rattle.crit_pairs.specs.Apart.{renamed_apart}
use Rattle.crit_pairs.specs.MadePairs.{spot}
use Rattle.crit_pairs.specs.Overlapping.{substitution}
use Rattle.crit_pairs.proofs.FoundPeaks.{some_peak, limit_passed}
use Rattle.crit_pairs.proofs.RepeatedPeaks.{adds_counted, is_counted, is_full, same_longer}
use Rattle.crit_pairs.proofs.adding.add_found.Goals as goal

pub returns-clause-moves : goal.returns-clause-moves
returns-clause-moves g c =
    let (u, replaced) = replaced_somehow c.args.place.now c.args.outer.now.left (tree c.args.part.now) (renamed_apart c.args.inner.now).right c.requires.there in
    let f = some_peak c.args.rules.now.rules c.args.j c.args.i c.args.place.now (tree c.args.part.now) c.args.inner.now c.args.outer.now c.requires.outer c.requires.inner c.requires.there c.requires.small
    (substitution c.args.unifier.now) c.requires.unifier u replaced c.args.peaks.now.nodes _ (c.in_ok-total.ensures.limits u replaced) in
    adds_counted c.args.rules.now.rules (spot c.args.j c.args.place.now c.args.i) c.args.peaks.now _ f.0 f.1 refl c.saturating_add-peaks.ensures f.2 refl (is_full _ _ _ c.has_room.ensures c.if-has_room.false)

pub returns-clause-added : goal.returns-clause-added
returns-clause-added g c =
    let (u, replaced) = replaced_somehow c.args.place.now c.args.outer.now.left (tree c.args.part.now) (renamed_apart c.args.inner.now).right c.requires.there in
    let f = some_peak c.args.rules.now.rules c.args.j c.args.i c.args.place.now (tree c.args.part.now) c.args.inner.now c.args.outer.now c.requires.outer c.requires.inner c.requires.there c.requires.small
    (substitution c.args.unifier.now) c.requires.unifier u replaced c.args.peaks.now.nodes _ (c.in_ok-total.ensures.limits u replaced) in
    is_counted c.args.rules.now.rules (spot c.args.j c.args.place.now c.args.i) f.0 f.1 c.args.peaks.now.nodes _ _ f.2 c.saturating_sub.ensures c.args.peaks.now.list.items

pub returns-clause-longer : goal.returns-clause-longer
returns-clause-longer g c = same_longer c.args.peaks.now.list.items

pub returns-in_err-total-clause-stops : goal.returns-in_err-total-clause-stops
returns-in_err-total-clause-stops g c =
    let p = err_from_is_err_and c.from_residual.result c.from_residual.ensures.1 in
    let (u, replaced) = replaced_somehow c.args.place.now c.args.outer.now.left (tree c.args.part.now) (renamed_apart c.args.inner.now).right c.requires.there in
    rw (p.1, p.2) (λ ne before h.
    limit_passed c.args.rules.now.rules c.args.j c.args.i c.args.place.now (tree c.args.part.now) c.args.inner.now c.args.outer.now c.requires.outer c.requires.inner c.requires.there c.requires.small
    (substitution c.args.unifier.now) c.requires.unifier u replaced c.in_err-total.field-0.0 c.args.peaks.now.nodes ne (c.in_err-total.ensures.fault u replaced) before)
