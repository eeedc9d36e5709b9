use Rattle.std.proofs.Common.{subst, arith, refl, ap, Some, ◌∙◌}
use Rattle.std.proofs.lemmas.Option.{slice_get_read}
use Rattle.trs_defs.specs.Member.{In}
use Rattle.usable_rules.proofs.Found.{one_more, last_found, found_or_last}
use Rattle.usable_rules.proofs.marking.mark.Goals as goal
use Rattle.usable_rules.proofs.marking.mark.Goals.{else-f-len-via-then-f-len+else-not-index, else-f-len-via-else-f-len}

pub returns-in_ok-push-clause-marked : goal.returns-in_ok-push-clause-marked
returns-in_ok-push-clause-marked c =
    let unmarked = slice_get_read c.args.flags.now.items _ c.args.f c.index.result.now refl (omega (arith, c.if-f-len.true, c.len.ensures)) c.index.ensures ∙ ap (λ v. Some v) c.if-not-index.true in
    rw c.in_ok-push.ensures.items (one_more c.args.flags.now.items c.args.found.now.items c.args.f unmarked c.requires)

pub returns-in_ok-push-clause-all : goal.returns-in_ok-push-clause-all
returns-in_ok-push-clause-all c h = rw c.in_ok-push.ensures.items (last_found c.args.found.now.items c.args.f)

pub returns-in_ok-push-clause-only : goal.returns-in_ok-push-clause-only
returns-in_ok-push-clause-only c g i = found_or_last c.args.found.now.items g c.args.f (subst (λ ns. In g ns) c.in_ok-push.ensures.items i)

pub returns-else-f-len-clause-all : goal.returns-else-f-len-clause-all
returns-else-f-len-clause-all c = λ h. elim c.else-f-len.branch [ else-f-len-via-then-f-len+else-not-index w ↦ (c.requires.marked c.args.f (slice_get_read c.args.flags.now.items _ c.args.f w.index.result.now refl h w.index.ensures ∙ ap (λ v. Some v) w.if-not-index.false)) | else-f-len-via-else-f-len w ↦ absurd (omega (arith, h, w.if-f-len.false, c.len.ensures)) ]
