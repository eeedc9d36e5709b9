use Rattle.std.proofs.Common.{◌≡◌, ℕ, suc, ◌+◌, ◌<◌, ◌++◌, ◌∷◌, [], length, take, get_or, subst, sym, ap, ◌∙◌, arith}
use Rattle.std.proofs.lemmas.Option.{slice_get-get_or}
use Rattle.tree_definitions.specs.strategies.declared.strategy.Strategy.TheVariants.{Dp}
use Rattle.tree_definitions.specs.declared.mark.Mark.TheVariants.{Idle}
use Rattle.tree_state.specs.Stuck.{failures, is_spent}
use Rattle.tree_state.proofs.Failures.{failures_next}
use Rattle.tree_state.proofs.reporting.mark_failures.Goals as goal

pub loop-place-preserved : goal.loop-place-preserved
loop-place-preserved c =
    let i = c.loop-place.place in
    let strategies = c.args.strategies.now in
    let marks = c.args.marks.now in
    let s = get_or strategies i Dp in
    let there = slice_get-get_or strategies i Dp c.loop-place-test.true in
    let fits : i < length marks = omega (arith, c.loop-place-test.true, c.requires) in
    let m = get_or marks i Idle in
    let at = slice_get-get_or marks i Idle fits in
    let e : suc i ≡ i + 1 = omega arith in
    let next = subst (λ (k : ℕ). failures (take k strategies) marks ≡ failures (take i strategies) marks ++ (s, is_spent m) ∷ []) e (failures_next strategies marks i s m there at) in
    c.in_ok-push.ensures.items ∙ ap (λ xs. xs ++ (s, c.is_spent.result) ∷ []) c.loop-place.invariant
    ∙ ap (λ b. failures (take i strategies) marks ++ (s, b) ∷ []) c.is_spent.ensures ∙ sym next
