use Rattle.std.proofs.Common.{◌≡◌, ◌<◌, Some, true, slice_get, length, subst, sym, arith, refl, ap, ◌∙◌}
use Rattle.std.proofs.lemmas.Option.{slice_get_read}
use Rattle.dp_graph.proofs.FoundLaws.{finds_none, finds_one}
use Rattle.dp_graph.proofs.collecting.mark.Goals as goal
use Rattle.dp_graph.proofs.collecting.mark.Goals.{else-k-len-via-then-k-len+else-not-index, else-k-len-via-else-k-len}

pub returns-in_ok-push : goal.returns-in_ok-push
returns-in_ok-push c =
    let unmarked = slice_get_read c.args.flags.now.items _ c.args.k c.index.result.now refl (omega (arith, c.if-k-len.true, c.len.ensures)) c.index.ensures ∙ ap (λ v. Some v) c.if-not-index.true in
    rw c.in_ok-push.ensures.items (finds_one c.args.flags.now.items c.args.found.now.items c.args.k unmarked)

pub returns-else-k-len : goal.returns-else-k-len
returns-else-k-len c =
    finds_none (λ j. j ≡ c.args.k) c.args.flags.now.items c.args.found.now.items
    (λ j same lt. elim c.else-k-len.branch [
      | else-k-len-via-then-k-len+else-not-index w ↦
          subst (λ z. slice_get c.args.flags.now.items z ≡ Some true) (sym same)
          (slice_get_read c.args.flags.now.items _ c.args.k w.index.result.now refl (subst (λ z. z < length c.args.flags.now.items) same lt) w.index.ensures ∙ ap (λ v. Some v) w.if-not-index.false)
      | else-k-len-via-else-k-len w ↦ absurd (omega (arith, same, lt, w.if-k-len.false, c.len.ensures))
    ])
